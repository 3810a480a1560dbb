-- Subcapturing and subtyping are kept along a map of contexts. Under a binder the map goes on to the binder itself.
use Rattle.cc_typing_laws.proofs.FormedContexts.{opened_kinded, positions_of}
use Rattle.std.proofs.Common.{◌≡◌, ℕ, true, false, cond, List, [], ◌∷◌, length, Some, sym, ap, ◌∙◌, subst, inl, inr}
use Rattle.std.specs.Prelude.{nat_eq}
use Rattle.cc_capture.specs.declared.var.Var.TheVariants.{Free}
use Rattle.cc_capture.specs.declared.var.Elem.{Elem}
use Rattle.cc_capture.specs.declared.var.Elem.TheVariants.{Var as Variable}
use Rattle.cc_capture.specs.Sets.{Set}
use Rattle.cc_capture.proofs.Membership.{Member-flat_image}
use Rattle.cc_core.specs.Shapes.{Shape, TypeVariable}
use Rattle.cc_core.specs.Contexts.{Bind, TermEntry, TypeEntry, Context, lookup}
use Rattle.cc_core.specs.Traversal.{act, act_set}
use Rattle.cc_core.specs.Substitution.{freely, overridden, moved_element, renamed_variable, opened, opened_set}
use Rattle.cc_core.specs.Occurrences.{Meets, bound_within}
use Rattle.cc_core.specs.WellFormed.{Kind, TermKind, TypeKind, kind_of, kinds_of, is_well_formed_shape}
use Rattle.cc_core.specs.Subcapturing.{Subcaptures, element, variable, SubcapturesSet}
use Rattle.cc_core.specs.Subtyping.{Subtypes, reflexive, type_variable}
use Rattle.cc_core.proofs.Lookups.{lookup-newest, lookup-older, lookup-below, lookup-cases}
use Rattle.cc_core.proofs.Moving.{Member-single, Member-single_itself}
use Rattle.cc_core.proofs.KindFacts.{IsKinded, IsKindedSet, IsKinded-from, IsKinded-test}
use Rattle.cc_core.proofs.KindedActions.{IsKinded-act}
use Rattle.cc_core.proofs.KindRespecting.{KeepsKinds-freely}
use Rattle.cc_core.proofs.FreeActions.{free-level}
use Rattle.cc_core.proofs.Renaming.{IsFree-freely, overridden-same, overridden-below, freely-agree}
use Rattle.cc_core.proofs.FreshOpenings.{fresh_opening}
use Rattle.cc_core.proofs.SubcapturingContexts.{IsKindedEntry, IsKindedContext, entry_kinded, kind_of_entry, IsKinded-added, entry_of_term, entry_of_type}
use Rattle.cc_core.proofs.SubcapturingLemmas.{subcaptures_above, subcaptures_reflexive}
use Rattle.cc_typing_laws.specs.ContextMaps.{Extends, unchanged, mapped, mapped_set, mapped_entry, IsContextMap}
use Rattle.cc_typing_laws.proofs.Extensions.{extends_older, lookup-extends}
use Rattle.cc_typing_laws.proofs.DirectSubtyping.{SubtypesDirectly, alike, under_any, through_bound, functions, type_functions, boxes, direct_transitive, direct_from, direct_to}
use Rattle.cc_core.proofs.Sorts.{SetSort, ShapeSort}

-- the map under a binder
abbrev pub to_under : Context → Context → (ℕ → ℕ) → ℕ → ℕ
to_under source target to = overridden to (length source) (length target)

abbrev pub shapes_under : Context → Context → (ℕ → Shape) → ℕ → Shape
shapes_under source target shapes = overridden shapes (length source) (TypeVariable (Free (length target)))

module _ (source target : Context) (to : ℕ → ℕ) (shapes : ℕ → Shape) (map : IsContextMap source target to shapes) where
  -- below the length the map under a binder is the map
  same_under : (passed : List Kind) (shape : Shape) → IsKinded (kinds_of source) passed shape
      → mapped (to_under source target to) (shapes_under source target shapes) shape ≡ mapped to shapes shape
  same_under passed shape h =
      freely-agree (length source) to (to_under source target to) shapes (shapes_under source target shapes)
      (overridden-below to (length source) (length target)) (overridden-below shapes (length source) (TypeVariable (Free (length target)))) ShapeSort 0 shape
      (positions_of ShapeSort source passed shape h)

  same_set_under : (passed : List Kind) (set : Set) → IsKindedSet (kinds_of source) passed set
      → mapped_set (to_under source target to) (shapes_under source target shapes) set ≡ mapped_set to shapes set
  same_set_under passed set h =
      freely-agree (length source) to (to_under source target to) shapes (shapes_under source target shapes)
      (overridden-below to (length source) (length target)) (overridden-below shapes (length source) (TypeVariable (Free (length target)))) SetSort 0 set
      (positions_of SetSort source passed set h)

  closed_under : (position : ℕ) → Meets (bound_within 0) 0 (shapes_under source target shapes position)
  closed_under position =
      elim (nat_eq position (length source)) as (λ t. Meets (bound_within 0) 0 (cond t (TypeVariable (Free (length target))) (shapes position))) [
        | true ↦ tt
        | false ↦ map.closed position
      ]

  -- bodies of binders: first opened and then mapped, or first mapped and then opened
  pub body_under : (passed : List Kind) (shape : Shape) → IsKinded (kinds_of source) passed shape
      → mapped (to_under source target to) (shapes_under source target shapes) (opened (length source) shape) ≡ opened (length target) (act (freely to shapes) 1 shape)
  body_under passed shape h =
      fresh_opening (length source) (length target) to shapes map.closed ShapeSort 0 shape (positions_of ShapeSort source passed shape h)
      ∙ ap (opened (length target)) (free-level (freely to shapes) (IsFree-freely to shapes map.closed) 0 1 shape)

  pub body_set_under : (passed : List Kind) (set : Set) → IsKindedSet (kinds_of source) passed set
      → mapped_set (to_under source target to) (shapes_under source target shapes) (opened_set (length source) set) ≡ opened_set (length target) (act_set (freely to shapes) 1 set)
  body_set_under passed set h =
      fresh_opening (length source) (length target) to shapes map.closed SetSort 0 set (positions_of SetSort source passed set h)

  -- a map keeps kinds
  pub mapped_kinded : (passed : List Kind) (shape : Shape) → IsKinded (kinds_of source) passed shape → IsKinded (kinds_of target) passed (mapped to shapes shape)
  mapped_kinded passed shape h =
      IsKinded-act (freely to shapes) (kinds_of source) passed (kinds_of target) passed
      (KeepsKinds-freely to shapes (kinds_of source) (kinds_of target) passed
      (λ p known. let entry = entry_of_term source p known in let found = map.types p entry.0 entry.1 entry.2 in kind_of_entry target (to p) (TermEntry found.0 found.1) found.2)
      (λ p known. let entry = entry_of_type source p known in IsKinded-from (kinds_of target) [] (shapes p) (map.formed p entry.0 entry.1)))
      [] shape h

  -- what stands at the newest position, and what becomes of the position
  newest_stands : (entry entry' : Bind) → entry ≡ entry' → (longer : Context) → Extends (mapped_entry to shapes entry ∷ target) longer → lookup longer (length target) ≡ Some (mapped_entry to shapes entry')
  newest_stands entry entry' same longer more =
      lookup-extends more (length target) (mapped_entry to shapes entry) (lookup-newest (mapped_entry to shapes entry) target) ∙ ap (λ x. Some (mapped_entry to shapes x)) same

  shape_at_newest : (position : ℕ) → position ≡ length source → shapes_under source target shapes position ≡ TypeVariable (Free (length target))
  shape_at_newest position same = ap (shapes_under source target shapes) same ∙ overridden-same shapes (length source) (TypeVariable (Free (length target)))

  to_at_newest : (position : ℕ) → position ≡ length source → to_under source target to position ≡ length target
  to_at_newest position same = ap (to_under source target to) same ∙ overridden-same to (length source) (length target)

  shape_at_older : (position : ℕ) (entry : Bind) → lookup source position ≡ Some entry → shapes_under source target shapes position ≡ shapes position
  shape_at_older position entry there = overridden-below shapes (length source) (TypeVariable (Free (length target))) position (lookup-below source position entry there)

  to_at_older : (position : ℕ) (entry : Bind) → lookup source position ≡ Some entry → to_under source target to position ≡ to position
  to_at_older position entry there = overridden-below to (length source) (length target) position (lookup-below source position entry there)

  module _ (entry : Bind) (kinded_context : IsKindedContext source) (kinded : IsKindedEntry (kinds_of source) entry) where
    abbrev under : Context
    under = mapped_entry to shapes entry ∷ target

    formed_under : (position : ℕ) (bound : Shape) → lookup (entry ∷ source) position ≡ Some (TypeEntry bound) → is_well_formed_shape (kinds_of under) [] (shapes_under source target shapes position) ≡ true
    formed_under position bound there =
        elim (lookup-cases entry source position (TypeEntry bound) there) as (λ _. is_well_formed_shape (kinds_of under) [] (shapes_under source target shapes position) ≡ true) [
          | inl same ↦
              let stands = newest_stands entry (TypeEntry bound) same.1 under unchanged in
              subst (λ s. is_well_formed_shape (kinds_of under) [] s ≡ true) (sym (shape_at_newest position same.0))
              (IsKinded-test (kinds_of under) [] (TypeVariable (Free (length target))) (kind_of_entry under (length target) (TypeEntry (mapped to shapes bound)) stands))
          | inr old ↦
              subst (λ s. is_well_formed_shape (kinds_of under) [] s ≡ true) (sym (shape_at_older position (TypeEntry bound) old))
              (IsKinded-test (kinds_of under) [] (shapes position)
              (IsKinded-added (kind_of (mapped_entry to shapes entry)) (kinds_of target) [] (shapes position) (IsKinded-from (kinds_of target) [] (shapes position) (map.formed position bound old))))
        ]

    bounds_under : (position : ℕ) (bound : Shape) → lookup (entry ∷ source) position ≡ Some (TypeEntry bound) → (longer : Context) → Extends under longer
        → Subtypes longer (shapes_under source target shapes position) (mapped (to_under source target to) (shapes_under source target shapes) bound)
    bounds_under position bound there longer more =
        elim (lookup-cases entry source position (TypeEntry bound) there) as (λ _. Subtypes longer (shapes_under source target shapes position) (mapped (to_under source target to) (shapes_under source target shapes) bound)) [
          | inl same ↦
              let own : IsKinded (kinds_of source) [] bound = subst (IsKindedEntry (kinds_of source)) same.1 kinded in
              let below : Subtypes longer (TypeVariable (Free (length target))) (mapped to shapes bound) = type_variable (newest_stands entry (TypeEntry bound) same.1 longer more) in
              subst (λ s. Subtypes longer s (mapped (to_under source target to) (shapes_under source target shapes) bound)) (sym (shape_at_newest position same.0))
              (subst (λ s. Subtypes longer (TypeVariable (Free (length target))) s) (sym (same_under [] bound own)) below)
          | inr old ↦
              let own : IsKinded (kinds_of source) [] bound = entry_kinded source position (TypeEntry bound) kinded_context old in
              let below : Subtypes longer (shapes position) (mapped to shapes bound) = map.bounds position bound old longer (extends_older more) in
              subst (λ s. Subtypes longer s (mapped (to_under source target to) (shapes_under source target shapes) bound)) (sym (shape_at_older position (TypeEntry bound) old))
              (subst (λ s. Subtypes longer (shapes position) s) (sym (same_under [] bound own)) below)
        ]

    sets_under : (position : ℕ) (shape : Shape) (set : Set) → lookup (entry ∷ source) position ≡ Some (TermEntry shape set) → (longer : Context) → Extends under longer
        → Subcaptures longer (Variable (Free (to_under source target to position))) (mapped_set (to_under source target to) (shapes_under source target shapes) set)
    sets_under position shape set there longer more =
        elim (lookup-cases entry source position (TermEntry shape set) there) as (λ _. Subcaptures longer (Variable (Free (to_under source target to position))) (mapped_set (to_under source target to) (shapes_under source target shapes) set)) [
          | inl same ↦
              let own : IsKindedEntry (kinds_of source) (TermEntry shape set) = subst (IsKindedEntry (kinds_of source)) same.1 kinded in
              let below : Subcaptures longer (Variable (Free (length target))) (mapped_set to shapes set) =
              variable (newest_stands entry (TermEntry shape set) same.1 longer more) (subcaptures_reflexive longer (mapped_set to shapes set)) in
              subst (λ p. Subcaptures longer (Variable (Free p)) (mapped_set (to_under source target to) (shapes_under source target shapes) set)) (sym (to_at_newest position same.0))
              (subst (λ c. Subcaptures longer (Variable (Free (length target))) c) (sym (same_set_under [] set own.1)) below)
          | inr old ↦
              let own : IsKindedEntry (kinds_of source) (TermEntry shape set) = entry_kinded source position (TermEntry shape set) kinded_context old in
              let below : Subcaptures longer (Variable (Free (to position))) (mapped_set to shapes set) = map.sets position shape set old longer (extends_older more) in
              subst (λ p. Subcaptures longer (Variable (Free p)) (mapped_set (to_under source target to) (shapes_under source target shapes) set)) (sym (to_at_older position (TermEntry shape set) old))
              (subst (λ c. Subcaptures longer (Variable (Free (to position))) c) (sym (same_set_under [] set own.1)) below)
        ]

    types_under : (position : ℕ) (shape : Shape) (set : Set) → lookup (entry ∷ source) position ≡ Some (TermEntry shape set)
        → (shape' : Shape) × (set' : Set) × (lookup under (to_under source target to position) ≡ Some (TermEntry shape' set'))
        × ((longer : Context) → Extends under longer → Subtypes longer shape' (mapped (to_under source target to) (shapes_under source target shapes) shape))
    types_under position shape set there =
        elim (lookup-cases entry source position (TermEntry shape set) there) as (λ _. (shape' : Shape) × (set' : Set) × (lookup under (to_under source target to position) ≡ Some (TermEntry shape' set'))
        × ((longer : Context) → Extends under longer → Subtypes longer shape' (mapped (to_under source target to) (shapes_under source target shapes) shape))) [
          | inl same ↦
              let own : IsKindedEntry (kinds_of source) (TermEntry shape set) = subst (IsKindedEntry (kinds_of source)) same.1 kinded in
              let stands : lookup under (length target) ≡ Some (TermEntry (mapped to shapes shape) (mapped_set to shapes set)) = newest_stands entry (TermEntry shape set) same.1 under unchanged in (
                mapped to shapes shape,
                mapped_set to shapes set,
                ap (lookup under) (to_at_newest position same.0) ∙ stands,
                λ longer more. subst (λ s. Subtypes longer (mapped to shapes shape) s) (sym (same_under [] shape own.0)) reflexive,
              )
          | inr old ↦
              let own : IsKindedEntry (kinds_of source) (TermEntry shape set) = entry_kinded source position (TermEntry shape set) kinded_context old in
              let found = map.types position shape set old in (
                found.0,
                found.1,
                ap (lookup under) (to_at_older position (TermEntry shape set) old) ∙ lookup-older (mapped_entry to shapes entry) target (to position) (TermEntry found.0 found.1) found.2,
                λ longer more. subst (λ s. Subtypes longer found.0 s) (sym (same_under [] shape own.0)) (found.3 longer (extends_older more)),
              )
        ]

    pub map_under : IsContextMap (entry ∷ source) (mapped_entry to shapes entry ∷ target) (to_under source target to) (shapes_under source target shapes)
    map_under = record { closed = closed_under; formed = formed_under; bounds = bounds_under; sets = sets_under; types = types_under }

-- a map keeps subcapturing
mapped_element : (source target : Context) (to : ℕ → ℕ) (shapes : ℕ → Shape) → IsContextMap source target to shapes
    → {e : Elem} {set : Set} → Subcaptures source e set → Subcaptures target (moved_element (renamed_variable to) e) (mapped_set to shapes set)
mapped_element source target to shapes map (element {e = e} {set = set} here) =
    element ((Member-flat_image ((freely to shapes).element 0) (moved_element (renamed_variable to) e) set).1 (e, here, Member-single_itself (moved_element (renamed_variable to) e)))
mapped_element source target to shapes map (variable {position = position} {shape = shape} {declared = declared} {set = set} there each) =
    subcaptures_above (map.sets position shape declared there target unchanged) (mapped_set to shapes set)
    (λ x here.
    let from = (Member-flat_image ((freely to shapes).element 0) x declared).0 here in
    subst (λ y. Subcaptures target y (mapped_set to shapes set)) (sym (Member-single x (moved_element (renamed_variable to) from.0) from.2))
    (mapped_element source target to shapes map (each from.0 from.1)))

pub mapped_subcaptures : (source target : Context) (to : ℕ → ℕ) (shapes : ℕ → Shape) → IsContextMap source target to shapes
    → (left right : Set) → SubcapturesSet source left right → SubcapturesSet target (mapped_set to shapes left) (mapped_set to shapes right)
mapped_subcaptures source target to shapes map left right below x here =
    let from = (Member-flat_image ((freely to shapes).element 0) x left).0 here in
    subst (λ y. Subcaptures target y (mapped_set to shapes right)) (sym (Member-single x (moved_element (renamed_variable to) from.0) from.2))
    (mapped_element source target to shapes map (below from.0 from.1))

-- a map keeps subtyping
pub mapped_directly : {source : Context} {left right : Shape} → SubtypesDirectly source left right → (target : Context) (to : ℕ → ℕ) (shapes : ℕ → Shape) → IsContextMap source target to shapes
    → IsKindedContext source → IsKinded (kinds_of source) [] left → IsKinded (kinds_of source) [] right → SubtypesDirectly target (mapped to shapes left) (mapped to shapes right)
mapped_directly alike target to shapes map g l r = alike
mapped_directly under_any target to shapes map g l r = under_any
mapped_directly {source = source} {right = right} (through_bound {position = position} {bound = bound} there rest) target to shapes map g l r =
    let own : IsKinded (kinds_of source) [] bound = entry_kinded source position (TypeEntry bound) g there in
    direct_transitive target (shapes position) (mapped to shapes bound) (mapped to shapes right)
    (direct_from (map.bounds position bound there target unchanged)) (mapped_directly rest target to shapes map g own r)
mapped_directly {source = source} (functions {takes = t} {takes' = t'} {gives = u} {gives' = u'} {c = c} {c' = c'} {e = e} {e' = e'} sets takes results body) target to shapes map g l r =
    let entry : Bind = TermEntry t' c' in
    let kinded : IsKindedEntry (kinds_of source) entry = (r.0, r.1) in
    let under = map_under source target to shapes map entry g kinded in
    let to' : ℕ → ℕ = to_under source target to in
    let shapes' : ℕ → Shape = shapes_under source target shapes in
    let inside : Context = mapped_entry to shapes entry ∷ target in
    let results' = mapped_subcaptures (entry ∷ source) inside to' shapes' under (opened_set (length source) e) (opened_set (length source) e') results in
    let body' = mapped_directly body inside to' shapes' under (kinded, g) (opened_kinded ShapeSort source entry u l.2) (opened_kinded ShapeSort source entry u' r.2) in
    functions (mapped_subcaptures source target to shapes map c' c sets) (mapped_directly takes target to shapes map g r.0 l.0)
    (subst (λ x. SubcapturesSet inside x (opened_set (length target) (act_set (freely to shapes) 1 e'))) (body_set_under source target to shapes map (TermKind ∷ []) e l.3)
    (subst (λ x. SubcapturesSet inside (mapped_set to' shapes' (opened_set (length source) e)) x) (body_set_under source target to shapes map (TermKind ∷ []) e' r.3) results'))
    (subst (λ x. SubtypesDirectly inside x (opened (length target) (act (freely to shapes) 1 u'))) (body_under source target to shapes map (TermKind ∷ []) u l.2)
    (subst (λ x. SubtypesDirectly inside (mapped to' shapes' (opened (length source) u)) x) (body_under source target to shapes map (TermKind ∷ []) u' r.2) body'))
mapped_directly {source = source} (type_functions {bound = bound} {gives = u} {gives' = u'} {e = e} {e' = e'} results body) target to shapes map g l r =
    let entry : Bind = TypeEntry bound in
    let under = map_under source target to shapes map entry g l.0 in
    let to' : ℕ → ℕ = to_under source target to in
    let shapes' : ℕ → Shape = shapes_under source target shapes in
    let inside : Context = mapped_entry to shapes entry ∷ target in
    let results' = mapped_subcaptures (entry ∷ source) inside to' shapes' under (opened_set (length source) e) (opened_set (length source) e') results in
    let body' = mapped_directly body inside to' shapes' under (l.0, g) (opened_kinded ShapeSort source entry u l.1) (opened_kinded ShapeSort source entry u' r.1) in
    type_functions
    (subst (λ x. SubcapturesSet inside x (opened_set (length target) (act_set (freely to shapes) 1 e'))) (body_set_under source target to shapes map (TypeKind ∷ []) e l.2)
    (subst (λ x. SubcapturesSet inside (mapped_set to' shapes' (opened_set (length source) e)) x) (body_set_under source target to shapes map (TypeKind ∷ []) e' r.2) results'))
    (subst (λ x. SubtypesDirectly inside x (opened (length target) (act (freely to shapes) 1 u'))) (body_under source target to shapes map (TypeKind ∷ []) u l.1)
    (subst (λ x. SubtypesDirectly inside (mapped to' shapes' (opened (length source) u)) x) (body_under source target to shapes map (TypeKind ∷ []) u' r.1) body'))
mapped_directly {source = source} (boxes {c = c} {c' = c'} sets body) target to shapes map g l r =
    boxes (mapped_subcaptures source target to shapes map c c' sets) (mapped_directly body target to shapes map g l.0 r.0)

pub mapped_subtypes : (source target : Context) (to : ℕ → ℕ) (shapes : ℕ → Shape) → IsContextMap source target to shapes → IsKindedContext source
    → (left right : Shape) → IsKinded (kinds_of source) [] left → IsKinded (kinds_of source) [] right → Subtypes source left right → Subtypes target (mapped to shapes left) (mapped to shapes right)
mapped_subtypes source target to shapes map g left right l r below = direct_to (mapped_directly (direct_from below) target to shapes map g l r)
