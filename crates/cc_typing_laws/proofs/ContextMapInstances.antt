-- The maps of contexts that the rules use.
use Rattle.cc_typing_laws.proofs.FormedContexts.{opened_kinded, positions_of}
use Rattle.std.proofs.Common.{◌≡◌, ℕ, ◌<◌, true, false, cond, List, [], ◌∷◌, ◌++◌, length, Some, refl, sym, ap, ◌∙◌, subst, inl, inr}
use Rattle.std.specs.Prelude.{nat_eq}
use Rattle.cc_capture.specs.declared.var.Var.TheVariants.{Free}
use Rattle.cc_capture.specs.declared.var.Elem.TheVariants.{Var as Variable}
use Rattle.cc_capture.specs.Sets.{Set}
use Rattle.cc_core.specs.Shapes.{Shape, TypeVariable, CapturingType, capturing}
use Rattle.cc_core.specs.Contexts.{Bind, TermEntry, TypeEntry, Context, lookup}
use Rattle.cc_core.specs.Traversal.{act, act_set, act_type}
use Rattle.cc_core.specs.Substitution.{freely, overridden, renaming, opened, opened_set, opened_type, replaced_type_by_shape, putting_shape, single}
use Rattle.cc_core.specs.Occurrences.{Meets, MeetsInSet, bound_within, under_type_binder}
use Rattle.cc_core.specs.WellFormed.{Kind, TermKind, TypeKind, kind_of, kinds_of, is_well_formed_shape, is_well_formed_type, is_well_formed_context}
use Rattle.cc_core.specs.Subcapturing.{Subcaptures, variable, SubcapturesSet}
use Rattle.cc_core.specs.Subtyping.{Subtypes, reflexive, type_variable, SubtypesType}
use Rattle.cc_core.proofs.Moving.{Member-single_itself}
use Rattle.cc_core.proofs.Lookups.{length_map, lookup-newest, lookup-below, lookup-cases}
use Rattle.cc_core.proofs.KindFacts.{IsKinded, IsKindedSet, IsKinded-from, IsKinded-test, IsKindedType-from}
use Rattle.cc_core.proofs.KindedActions.{IsKinded-act, IsKinded-meets, IsKindedSet-meets}
use Rattle.cc_core.proofs.KindRespecting.{KeepsKinds-freely, kinds-under_type_binder, kinds-bound_within}
use Rattle.cc_core.proofs.Levels.{freely-still}
use Rattle.cc_core.proofs.Renaming.{renaming_as_free, overridden-same, overridden-below, freely-agree}
use Rattle.cc_core.proofs.FreshOpenings.{fresh_opening, fresh_shape}
use Rattle.cc_core.proofs.SubcapturingContexts.{IsKindedContext, IsKindedContext-from, entry_kinded, kind_of_entry, entry_of_term, entry_of_type}
use Rattle.cc_core.proofs.SubcapturingLemmas.{subcaptures_reflexive}
use Rattle.cc_typing_laws.specs.ContextMaps.{Extends, unchanged, added, mapped, mapped_set, mapped_entry, IsContextMap, MapsEntries}
use Rattle.cc_typing_laws.specs.ContextMapLaws.{itself}
use Rattle.cc_typing_laws.proofs.Extensions.{extends_more, lookup-extends, subcaptures_extends, subcaptures_set_extends}
use Rattle.cc_typing_laws.proofs.DirectSubtyping.{Narrows, narrows_under, narrows_newest, direct_narrows, direct_from, direct_to}
use Rattle.cc_typing_laws.proofs.ContextMapping.{mapped_subcaptures, mapped_subtypes}
use Rattle.cc_core.proofs.Sorts.{SetSort, ShapeSort}

-- the map that leaves each position leaves all
pub identity_mapped : (shape : Shape) → mapped (λ p. p) itself shape ≡ shape
identity_mapped = freely-still ShapeSort 0

pub identity_mapped_set : (set : Set) → mapped_set (λ p. p) itself set ≡ set
identity_mapped_set = freely-still SetSort 0

pub longer_map : (context longer : Context) → Extends context longer → IsContextMap context longer (λ p. p) itself
longer_map context longer more =
    record {
      closed = λ position. tt;
      formed = λ position bound there. IsKinded-test (kinds_of longer) [] (itself position) (kind_of_entry longer position (TypeEntry bound) (lookup-extends more position (TypeEntry bound) there));
      bounds = λ position bound there longest more'.
          subst (λ s. Subtypes longest (itself position) s) (sym (identity_mapped bound))
          (type_variable (lookup-extends more' position (TypeEntry bound) (lookup-extends more position (TypeEntry bound) there)));
      sets = λ position shape set there longest more'.
          subst (λ c. Subcaptures longest (Variable (Free position)) c) (sym (identity_mapped_set set))
          (variable (lookup-extends more' position (TermEntry shape set) (lookup-extends more position (TermEntry shape set) there)) (subcaptures_reflexive longest set));
      types = λ position shape set there. (
        shape,
        set,
        lookup-extends more position (TermEntry shape set) there,
        λ longest more'. subst (λ s. Subtypes longest shape s) (sym (identity_mapped shape)) reflexive,
      );
    }

pub subtypes_extend : (context longer : Context) → Extends context longer → IsKindedContext context → (left right : Shape)
    → IsKinded (kinds_of context) [] left → IsKinded (kinds_of context) [] right → Subtypes context left right → Subtypes longer left right
subtypes_extend context longer more g left right l r below =
    subst (λ s. Subtypes longer s right) (identity_mapped left)
    (subst (λ s. Subtypes longer (mapped (λ p. p) itself left) s) (identity_mapped right)
    (mapped_subtypes context longer (λ p. p) itself (longer_map context longer more) g left right l r below))

-- what holds in the target holds in each longer context
pub entries_map : (source target : Context) (to : ℕ → ℕ) (shapes : ℕ → Shape) → IsKindedContext source → IsKindedContext target
    → MapsEntries source target to shapes → IsContextMap source target to shapes
entries_map source target to shapes g d m =
    let kept : (shape : Shape) → IsKinded (kinds_of source) [] shape → IsKinded (kinds_of target) [] (mapped to shapes shape) =
    λ shape h.
    IsKinded-act (freely to shapes) (kinds_of source) [] (kinds_of target) []
    (KeepsKinds-freely to shapes (kinds_of source) (kinds_of target) []
    (λ p known. let entry = entry_of_term source p known in let found = m.types p entry.0 entry.1 entry.2 in kind_of_entry target (to p) (TermEntry found.0 found.1) found.2)
    (λ p known. let entry = entry_of_type source p known in IsKinded-from (kinds_of target) [] (shapes p) (m.formed p entry.0 entry.1)))
    [] shape h in
    record {
      closed = m.closed;
      formed = m.formed;
      bounds = λ position bound there longer more.
          subtypes_extend target longer more d (shapes position) (mapped to shapes bound)
          (IsKinded-from (kinds_of target) [] (shapes position) (m.formed position bound there)) (kept bound (entry_kinded source position (TypeEntry bound) g there)) (m.bounds position bound there);
      sets = λ position shape set there longer more. subcaptures_extends more (m.sets position shape set there);
      types = λ position shape set there.
          let found = m.types position shape set there in (
            found.0,
            found.1,
            found.2,
            λ longer more. subtypes_extend target longer more d found.0 (mapped to shapes shape)
                (entry_kinded target (to position) (TermEntry found.0 found.1) d found.2).0 (kept shape (entry_kinded source position (TermEntry shape set) g there).0) found.3,
          );
    }

pub renaming_map : (source target : Context) (to : ℕ → ℕ)
    → ((position : ℕ) (entry : Bind) → lookup source position ≡ Some entry → lookup target (to position) ≡ Some (mapped_entry to (λ p. TypeVariable (Free (to p))) entry))
    → IsContextMap source target to (λ position. TypeVariable (Free (to position)))
renaming_map source target to found =
    record {
      closed = λ position. tt;
      formed = λ position bound there.
          IsKinded-test (kinds_of target) [] (TypeVariable (Free (to position))) (kind_of_entry target (to position) (mapped_entry to (λ p. TypeVariable (Free (to p))) (TypeEntry bound)) (found position (TypeEntry bound) there));
      bounds = λ position bound there longer more. type_variable (lookup-extends more (to position) (mapped_entry to (λ p. TypeVariable (Free (to p))) (TypeEntry bound)) (found position (TypeEntry bound) there));
      sets = λ position shape set there longer more.
          variable (lookup-extends more (to position) (mapped_entry to (λ p. TypeVariable (Free (to p))) (TermEntry shape set)) (found position (TermEntry shape set) there))
          (subcaptures_reflexive longer (mapped_set to (λ p. TypeVariable (Free (to p))) set));
      types = λ position shape set there.
          (mapped to (λ p. TypeVariable (Free (to p))) shape, mapped_set to (λ p. TypeVariable (Free (to p))) set, found position (TermEntry shape set) there, λ longer more. reflexive);
    }

-- Maps that change the newest position alone.
module _ (entry : Bind) (context : Context) (to : ℕ → ℕ) (shapes : ℕ → Shape)
    (same : (p : ℕ) → p < length context → to p ≡ p) (same_shapes : (p : ℕ) → p < length context → shapes p ≡ itself p)
    (g : IsKindedContext context) where
  pub stays_mapped : (passed : List Kind) (shape : Shape) → IsKinded (kinds_of context) passed shape → mapped to shapes shape ≡ shape
  stays_mapped passed shape h = freely-agree (length context) (λ p. p) to itself shapes same same_shapes ShapeSort 0 shape (positions_of ShapeSort context passed shape h) ∙ identity_mapped shape

  pub stays_mapped_set : (passed : List Kind) (set : Set) → IsKindedSet (kinds_of context) passed set → mapped_set to shapes set ≡ set
  stays_mapped_set passed set h = freely-agree (length context) (λ p. p) to itself shapes same same_shapes SetSort 0 set (positions_of SetSort context passed set h) ∙ identity_mapped_set set

  pub older_bounds : (target : Context) → Extends context target → (position : ℕ) (bound : Shape) → lookup context position ≡ Some (TypeEntry bound) → Subtypes target (shapes position) (mapped to shapes bound)
  older_bounds target more position bound there =
      subst (λ s. Subtypes target s (mapped to shapes bound)) (sym (same_shapes position (lookup-below context position (TypeEntry bound) there)))
      (subst (λ s. Subtypes target (itself position) s) (sym (stays_mapped [] bound (entry_kinded context position (TypeEntry bound) g there))) (type_variable (lookup-extends more position (TypeEntry bound) there)))

  pub older_formed : (target : Context) → Extends context target → (position : ℕ) (bound : Shape) → lookup context position ≡ Some (TypeEntry bound) → is_well_formed_shape (kinds_of target) [] (shapes position) ≡ true
  older_formed target more position bound there =
      subst (λ s. is_well_formed_shape (kinds_of target) [] s ≡ true) (sym (same_shapes position (lookup-below context position (TypeEntry bound) there)))
      (IsKinded-test (kinds_of target) [] (itself position) (kind_of_entry target position (TypeEntry bound) (lookup-extends more position (TypeEntry bound) there)))

  pub older_sets : (target : Context) → Extends context target → (position : ℕ) (shape : Shape) (set : Set) → lookup context position ≡ Some (TermEntry shape set) → Subcaptures target (Variable (Free (to position))) (mapped_set to shapes set)
  older_sets target more position shape set there =
      subst (λ p. Subcaptures target (Variable (Free p)) (mapped_set to shapes set)) (sym (same position (lookup-below context position (TermEntry shape set) there)))
      (subst (λ c. Subcaptures target (Variable (Free position)) c) (sym (stays_mapped_set [] set (entry_kinded context position (TermEntry shape set) g there).1))
      (variable (lookup-extends more position (TermEntry shape set) there) (subcaptures_reflexive target set)))

  pub older_types : (target : Context) → Extends context target → (position : ℕ) (shape : Shape) (set : Set) → lookup context position ≡ Some (TermEntry shape set)
      → (shape' : Shape) × (set' : Set) × (lookup target (to position) ≡ Some (TermEntry shape' set')) × Subtypes target shape' (mapped to shapes shape)
  older_types target more position shape set there = (
    shape,
    set,
    ap (lookup target) (same position (lookup-below context position (TermEntry shape set) there)) ∙ lookup-extends more position (TermEntry shape set) there,
    subst (λ s. Subtypes target shape s) (sym (stays_mapped [] shape (entry_kinded context position (TermEntry shape set) g there).0)) reflexive,
  )

entry_parts : (s : Shape) (c : Set) (s₁ : Shape) (c₁ : Set) → TermEntry s c ≡ TermEntry s₁ c₁ → (s ≡ s₁) × (c ≡ c₁)
entry_parts s c s₁ c₁ e = (cc, cc)

closed_override : (n : ℕ) (by : Shape) → Meets (bound_within 0) 0 by → (p : ℕ) → Meets (bound_within 0) 0 (overridden itself n by p)
closed_override n by h p = elim (nat_eq p n) as (λ t. Meets (bound_within 0) 0 (cond t by (itself p))) [ true ↦ h | false ↦ tt ]

-- a variable for the newest variable
pub variable_map : (context : Context) (shape shape' : Shape) (set set' : Set) (position : ℕ)
    → is_well_formed_context (TermEntry shape set ∷ context) ≡ true → lookup context position ≡ Some (TermEntry shape' set')
    → SubtypesType context (capturing shape' (single (Variable (Free position)))) (capturing shape set)
    → IsContextMap (TermEntry shape set ∷ context) context (overridden (λ p. p) (length context) position) (overridden itself (length context) (TypeVariable (Free position)))
variable_map context s s' c c' y formed at_y below =
    let n = length context in
    let to : ℕ → ℕ = overridden (λ p. p) n y in
    let shapes : ℕ → Shape = overridden itself n (TypeVariable (Free y)) in
    let source : Context = TermEntry s c ∷ context in
    let g : IsKindedContext source = IsKindedContext-from source formed in
    let same : (p : ℕ) → p < n → to p ≡ p = overridden-below (λ p. p) n y in
    let same_shapes : (p : ℕ) → p < n → shapes p ≡ itself p = overridden-below itself n (TypeVariable (Free y)) in
    let entry : Bind = TermEntry s c in
    entries_map source context to shapes g g.1
    (record {
      closed = λ p. closed_override n (TypeVariable (Free y)) tt p;
      formed = λ p b there.
          elim (lookup-cases entry context p (TypeEntry b) there) as (λ _. is_well_formed_shape (kinds_of context) [] (shapes p) ≡ true) [
            | inl here ↦ cc
            | inr old ↦ older_formed entry context to shapes same same_shapes g.1 context unchanged p b old
          ];
      bounds = λ p b there.
          elim (lookup-cases entry context p (TypeEntry b) there) as (λ _. Subtypes context (shapes p) (mapped to shapes b)) [
            | inl here ↦ cc
            | inr old ↦ older_bounds entry context to shapes same same_shapes g.1 context unchanged p b old
          ];
      sets = λ p s₁ c₁ there.
          elim (lookup-cases entry context p (TermEntry s₁ c₁) there) as (λ _. Subcaptures context (Variable (Free (to p))) (mapped_set to shapes c₁)) [
            | inl here ↦
                let parts = entry_parts s c s₁ c₁ here.1 in
                subst (λ q. Subcaptures context (Variable (Free q)) (mapped_set to shapes c₁)) (sym (ap to here.0 ∙ overridden-same (λ q. q) n y))
                (subst (λ d. Subcaptures context (Variable (Free y)) d) (sym (ap (mapped_set to shapes) (sym parts.1) ∙ stays_mapped_set entry context to shapes same same_shapes g.1 [] c g.0.1))
                (below.0 (Variable (Free y)) (Member-single_itself (Variable (Free y)))))
            | inr old ↦ older_sets entry context to shapes same same_shapes g.1 context unchanged p s₁ c₁ old
          ];
      types = λ p s₁ c₁ there.
          elim (lookup-cases entry context p (TermEntry s₁ c₁) there) as (λ _. (s₂ : Shape) × (c₂ : Set) × (lookup context (to p) ≡ Some (TermEntry s₂ c₂)) × Subtypes context s₂ (mapped to shapes s₁)) [
            | inl here ↦
                let parts = entry_parts s c s₁ c₁ here.1 in (
                  s',
                  c',
                  ap (lookup context) (ap to here.0 ∙ overridden-same (λ q. q) n y) ∙ at_y,
                  subst (λ r. Subtypes context s' r) (sym (ap (mapped to shapes) (sym parts.0) ∙ stays_mapped entry context to shapes same same_shapes g.1 [] s g.0.0)) below.1,
                )
            | inr old ↦ older_types entry context to shapes same same_shapes g.1 context unchanged p s₁ c₁ old
          ];
    })

-- a shape for the newest type variable
pub shape_map : (context : Context) (bound shape : Shape)
    → is_well_formed_context (TypeEntry bound ∷ context) ≡ true → is_well_formed_shape (kinds_of context) [] shape ≡ true → Subtypes context shape bound
    → IsContextMap (TypeEntry bound ∷ context) context (λ p. p) (overridden itself (length context) shape)
shape_map context bound shape formed known below =
    let n = length context in
    let to : ℕ → ℕ = λ p. p in
    let shapes : ℕ → Shape = overridden itself n shape in
    let entry : Bind = TypeEntry bound in
    let source : Context = entry ∷ context in
    let g : IsKindedContext source = IsKindedContext-from source formed in
    let same : (p : ℕ) → p < n → to p ≡ p = λ p _. refl in
    let same_shapes : (p : ℕ) → p < n → shapes p ≡ itself p = overridden-below itself n shape in
    let kinded : IsKinded (kinds_of context) [] shape = IsKinded-from (kinds_of context) [] shape known in
    entries_map source context to shapes g g.1
    (record {
      closed = λ p. closed_override n shape (IsKinded-meets (kinds_of context) [] (bound_within 0) (kinds-bound_within (kinds_of context) []) [] shape kinded) p;
      formed = λ p b there.
          elim (lookup-cases entry context p (TypeEntry b) there) as (λ _. is_well_formed_shape (kinds_of context) [] (shapes p) ≡ true) [
            | inl here ↦ ap (is_well_formed_shape (kinds_of context) []) (ap shapes here.0 ∙ overridden-same itself n shape) ∙ known
            | inr old ↦ older_formed entry context to shapes same same_shapes g.1 context unchanged p b old
          ];
      bounds = λ p b there.
          elim (lookup-cases entry context p (TypeEntry b) there) as (λ _. Subtypes context (shapes p) (mapped to shapes b)) [
            | inl here ↦
                let is : bound ≡ b = bounds_same bound b here.1 in
                subst (λ s. Subtypes context s (mapped to shapes b)) (sym (ap shapes here.0 ∙ overridden-same itself n shape))
                (subst (λ s. Subtypes context shape s) (sym (ap (mapped to shapes) (sym is) ∙ stays_mapped entry context to shapes same same_shapes g.1 [] bound g.0)) below)
            | inr old ↦ older_bounds entry context to shapes same same_shapes g.1 context unchanged p b old
          ];
      sets = λ p s₁ c₁ there.
          elim (lookup-cases entry context p (TermEntry s₁ c₁) there) as (λ _. Subcaptures context (Variable (Free p)) (mapped_set to shapes c₁)) [
            | inl here ↦ cc
            | inr old ↦ older_sets entry context to shapes same same_shapes g.1 context unchanged p s₁ c₁ old
          ];
      types = λ p s₁ c₁ there.
          elim (lookup-cases entry context p (TermEntry s₁ c₁) there) as (λ _. (s₂ : Shape) × (c₂ : Set) × (lookup context p ≡ Some (TermEntry s₂ c₂)) × Subtypes context s₂ (mapped to shapes s₁)) [
            | inl here ↦ cc
            | inr old ↦ older_types entry context to shapes same same_shapes g.1 context unchanged p s₁ c₁ old
          ];
    })
  where
    bounds_same : (b b' : Shape) → TypeEntry b ≡ TypeEntry b' → b ≡ b'
    bounds_same b b' e = cc

-- a smaller type for the newest variable
pub smaller_map : (context : Context) (shape shape' : Shape) (set set' : Set)
    → is_well_formed_context (TermEntry shape set ∷ context) ≡ true → is_well_formed_context (TermEntry shape' set' ∷ context) ≡ true
    → SubtypesType context (capturing shape' set') (capturing shape set)
    → IsContextMap (TermEntry shape set ∷ context) (TermEntry shape' set' ∷ context) (λ p. p) itself
smaller_map context s s' c c' formed formed' below =
    let n = length context in
    let entry : Bind = TermEntry s c in
    let source : Context = entry ∷ context in
    let target : Context = TermEntry s' c' ∷ context in
    let g : IsKindedContext source = IsKindedContext-from source formed in
    let d : IsKindedContext target = IsKindedContext-from target formed' in
    let more : Extends context target = added (TermEntry s' c') unchanged in
    let same : (p : ℕ) → p < n → p ≡ p = λ p _. refl in
    let same_shapes : (p : ℕ) → p < n → itself p ≡ itself p = λ p _. refl in
    entries_map source target (λ p. p) itself g d
    (record {
      closed = λ p. tt;
      formed = λ p b there.
          elim (lookup-cases entry context p (TypeEntry b) there) as (λ _. is_well_formed_shape (kinds_of target) [] (itself p) ≡ true) [
            | inl here ↦ cc
            | inr old ↦ older_formed entry context (λ q. q) itself same same_shapes g.1 target more p b old
          ];
      bounds = λ p b there.
          elim (lookup-cases entry context p (TypeEntry b) there) as (λ _. Subtypes target (itself p) (mapped (λ q. q) itself b)) [
            | inl here ↦ cc
            | inr old ↦ older_bounds entry context (λ q. q) itself same same_shapes g.1 target more p b old
          ];
      sets = λ p s₁ c₁ there.
          elim (lookup-cases entry context p (TermEntry s₁ c₁) there) as (λ _. Subcaptures target (Variable (Free p)) (mapped_set (λ q. q) itself c₁)) [
            | inl here ↦
                let parts = entry_parts s c s₁ c₁ here.1 in
                subst (λ q. Subcaptures target (Variable (Free q)) (mapped_set (λ r. r) itself c₁)) (sym here.0)
                (subst (λ x. Subcaptures target (Variable (Free n)) x) (parts.1 ∙ sym (identity_mapped_set c₁))
                (variable (lookup-newest (TermEntry s' c') context) (subcaptures_set_extends more c' c below.0)))
            | inr old ↦ older_sets entry context (λ q. q) itself same same_shapes g.1 target more p s₁ c₁ old
          ];
      types = λ p s₁ c₁ there.
          elim (lookup-cases entry context p (TermEntry s₁ c₁) there) as (λ _. (s₂ : Shape) × (c₂ : Set) × (lookup target p ≡ Some (TermEntry s₂ c₂)) × Subtypes target s₂ (mapped (λ q. q) itself s₁)) [
            | inl here ↦
                let parts = entry_parts s c s₁ c₁ here.1 in (
                  s',
                  c',
                  ap (lookup target) here.0 ∙ lookup-newest (TermEntry s' c') context,
                  subst (λ x. Subtypes target s' x) (parts.0 ∙ sym (identity_mapped s₁)) (subtypes_extend context target more g.1 s' s d.0.0 g.0.0 below.1),
                )
            | inr old ↦ older_types entry context (λ q. q) itself same same_shapes g.1 target more p s₁ c₁ old
          ];
    })

-- what becomes of the bodies of binders
pub variable_in_body : (context : Context) (position : ℕ) (shape : Shape) → IsKinded (kinds_of context) (TermKind ∷ []) shape
    → mapped (overridden (λ p. p) (length context) position) (overridden itself (length context) (TypeVariable (Free position))) (opened (length context) shape) ≡ opened position shape
variable_in_body context position shape h =
    fresh_opening (length context) position (λ p. p) itself (λ p. tt) ShapeSort 0 shape (positions_of ShapeSort context (TermKind ∷ []) shape h) ∙ ap (opened position) (identity_mapped shape)

pub variable_in_body_set : (context : Context) (position : ℕ) (set : Set) → IsKindedSet (kinds_of context) (TermKind ∷ []) set
    → mapped_set (overridden (λ p. p) (length context) position) (overridden itself (length context) (TypeVariable (Free position))) (opened_set (length context) set) ≡ opened_set position set
variable_in_body_set context position set h =
    fresh_opening (length context) position (λ p. p) itself (λ p. tt) SetSort 0 set (positions_of SetSort context (TermKind ∷ []) set h) ∙ ap (opened_set position) (identity_mapped_set set)

pub shape_in_body : (context : Context) (by shape : Shape) → IsKinded (kinds_of context) (TypeKind ∷ []) shape
    → mapped (λ p. p) (overridden itself (length context) by) (opened (length context) shape) ≡ act (putting_shape by) 0 shape
shape_in_body context by shape h =
    let placed : Meets (under_type_binder (length context)) 0 shape =
    subst (λ n. Meets (under_type_binder n) 0 shape) (length_map kind_of context)
    (IsKinded-meets (kinds_of context) (TypeKind ∷ []) (under_type_binder (length (kinds_of context))) (kinds-under_type_binder (kinds_of context)) [] shape h) in
    fresh_shape (length context) by (λ p. p) (λ p. p) itself (λ p _. refl) (λ p. tt) ShapeSort 0 shape placed ∙ ap (act (putting_shape by) 0) (identity_mapped shape)

pub shape_in_body_set : (context : Context) (by : Shape) (set : Set) → IsKindedSet (kinds_of context) (TypeKind ∷ []) set
    → mapped_set (λ p. p) (overridden itself (length context) by) (opened_set (length context) set) ≡ act_set (putting_shape by) 0 set
shape_in_body_set context by set h =
    let placed : MeetsInSet (under_type_binder (length context)) 0 set =
    subst (λ n. MeetsInSet (under_type_binder n) 0 set) (length_map kind_of context)
    (IsKindedSet-meets (kinds_of context) (TypeKind ∷ []) (under_type_binder (length (kinds_of context))) (kinds-under_type_binder (kinds_of context)) [] set h) in
    fresh_shape (length context) by (λ p. p) (λ p. p) itself (λ p _. refl) (λ p. tt) SetSort 0 set placed ∙ ap (act_set (putting_shape by) 0) (identity_mapped_set set)

-- types that compare after a map compare as what they have become
types_become : (context : Context) (one two one' two' : CapturingType) → one.shape ≡ one'.shape → one.set ≡ one'.set → two.shape ≡ two'.shape → two.set ≡ two'.set
    → SubtypesType context one two → SubtypesType context one' two'
types_become context one two one' two' p q r s below = (
  subst (λ x. SubcapturesSet context x two'.set) q (subst (SubcapturesSet context one.set) s below.0),
  subst (λ x. Subtypes context x two'.shape) p (subst (Subtypes context one.shape) r below.1),
)

-- what follows for subtyping
pub puts_variables : (context : Context) (shape shape' : Shape) (set set' : Set) (position : ℕ) (left right : CapturingType)
    → is_well_formed_context (TermEntry shape set ∷ context) ≡ true → lookup context position ≡ Some (TermEntry shape' set')
    → SubtypesType context (capturing shape' (single (Variable (Free position)))) (capturing shape set)
    → is_well_formed_type (kinds_of context) (TermKind ∷ []) left ≡ true → is_well_formed_type (kinds_of context) (TermKind ∷ []) right ≡ true
    → SubtypesType (TermEntry shape set ∷ context) (opened_type (length context) left) (opened_type (length context) right)
    → SubtypesType context (opened_type position left) (opened_type position right)
puts_variables context s s' c c' y left right formed at_y below l r body =
    let n = length context in
    let entry : Bind = TermEntry s c in
    let to : ℕ → ℕ = overridden (λ p. p) n y in
    let shapes : ℕ → Shape = overridden itself n (TypeVariable (Free y)) in
    let l' = IsKindedType-from (kinds_of context) (TermKind ∷ []) left l in
    let r' = IsKindedType-from (kinds_of context) (TermKind ∷ []) right r in
    let map = variable_map context s s' c c' y formed at_y below in
    types_become context (act_type (freely to shapes) 0 (opened_type n left)) (act_type (freely to shapes) 0 (opened_type n right)) (opened_type y left) (opened_type y right)
    (variable_in_body context y left.shape l'.0) (variable_in_body_set context y left.set l'.1) (variable_in_body context y right.shape r'.0) (variable_in_body_set context y right.set r'.1) (
      mapped_subcaptures (entry ∷ context) context to shapes map (opened_set n left.set) (opened_set n right.set) body.0,
      mapped_subtypes (entry ∷ context) context to shapes map (IsKindedContext-from (entry ∷ context) formed) (opened n left.shape) (opened n right.shape)
          (opened_kinded ShapeSort context entry left.shape l'.0) (opened_kinded ShapeSort context entry right.shape r'.0) body.1,
    )

pub puts_shapes : (context : Context) (bound shape : Shape) (left right : CapturingType)
    → is_well_formed_context (TypeEntry bound ∷ context) ≡ true → is_well_formed_shape (kinds_of context) [] shape ≡ true → Subtypes context shape bound
    → is_well_formed_type (kinds_of context) (TypeKind ∷ []) left ≡ true → is_well_formed_type (kinds_of context) (TypeKind ∷ []) right ≡ true
    → SubtypesType (TypeEntry bound ∷ context) (opened_type (length context) left) (opened_type (length context) right)
    → SubtypesType context (replaced_type_by_shape shape left) (replaced_type_by_shape shape right)
puts_shapes context bound shape left right formed known below l r body =
    let n = length context in
    let entry : Bind = TypeEntry bound in
    let to : ℕ → ℕ = λ p. p in
    let shapes : ℕ → Shape = overridden itself n shape in
    let l' = IsKindedType-from (kinds_of context) (TypeKind ∷ []) left l in
    let r' = IsKindedType-from (kinds_of context) (TypeKind ∷ []) right r in
    let map = shape_map context bound shape formed known below in
    types_become context (act_type (freely to shapes) 0 (opened_type n left)) (act_type (freely to shapes) 0 (opened_type n right)) (replaced_type_by_shape shape left) (replaced_type_by_shape shape right)
    (shape_in_body context shape left.shape l'.0) (shape_in_body_set context shape left.set l'.1) (shape_in_body context shape right.shape r'.0) (shape_in_body_set context shape right.set r'.1) (
      mapped_subcaptures (entry ∷ context) context to shapes map (opened_set n left.set) (opened_set n right.set) body.0,
      mapped_subtypes (entry ∷ context) context to shapes map (IsKindedContext-from (entry ∷ context) formed) (opened n left.shape) (opened n right.shape)
          (opened_kinded ShapeSort context entry left.shape l'.0) (opened_kinded ShapeSort context entry right.shape r'.0) body.1,
    )

pub subtypes_rename : (source target : Context) (to : ℕ → ℕ) (left right : Shape)
    → ((position : ℕ) (entry : Bind) → lookup source position ≡ Some entry → lookup target (to position) ≡ Some (mapped_entry to (λ p. TypeVariable (Free (to p))) entry))
    → is_well_formed_context source ≡ true → is_well_formed_shape (kinds_of source) [] left ≡ true → is_well_formed_shape (kinds_of source) [] right ≡ true
    → Subtypes source left right → Subtypes target (act (renaming to) 0 left) (act (renaming to) 0 right)
subtypes_rename source target to left right found formed l r below =
    subst (λ a. Subtypes target (act a 0 left) (act a 0 right)) (sym (renaming_as_free to))
    (mapped_subtypes source target to (λ p. TypeVariable (Free (to p))) (renaming_map source target to found) (IsKindedContext-from source formed) left right
    (IsKinded-from (kinds_of source) [] left l) (IsKinded-from (kinds_of source) [] right r) below)

narrows_later : {wide narrow : Context} (later : Context) → Narrows wide narrow → Narrows (later ++ wide) (later ++ narrow)
narrows_later [] n = n
narrows_later (entry ∷ later) n = narrows_under entry (narrows_later later n)

pub subtypes_narrow : (context later : Context) (shape shape' : Shape) (set set' : Set) (left right : Shape) → SubcapturesSet context set' set
    → Subtypes (later ++ (TermEntry shape set ∷ context)) left right → Subtypes (later ++ (TermEntry shape' set' ∷ context)) left right
subtypes_narrow context later s s' c c' left right less below =
    direct_to (direct_narrows (direct_from below) (narrows_later later (narrows_newest context s s' c c' less)))

pub subtypes_weaken : (context later : Context) (left right : Shape) → is_well_formed_context context ≡ true
    → is_well_formed_shape (kinds_of context) [] left ≡ true → is_well_formed_shape (kinds_of context) [] right ≡ true
    → Subtypes context left right → Subtypes (later ++ context) left right
subtypes_weaken context later left right formed l r below =
    subtypes_extend context (later ++ context) (extends_more later context) (IsKindedContext-from context formed) left right
    (IsKinded-from (kinds_of context) [] left l) (IsKinded-from (kinds_of context) [] right r) below
