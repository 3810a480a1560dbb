-- Maps of contexts: variables of terms go to variables, and type variables to shapes. Subcapturing and subtyping go along
-- with them, and weakening, substitution and narrowing are maps.
use Rattle.cc_core.proofs.SubcapturingContexts.{IsKinded-added, IsKindedContext, IsKindedEntry, entry_kinded, entry_of_term, entry_of_type, kind_of_entry}
use Rattle.std.proofs.Common.{◌≡◌, ℕ, ◌<◌, true, false, cond, List, [], ◌∷◌, ◌++◌, length, Some, inl, inr, ◌⊎◌, refl, sym, ap, ◌∙◌, subst}
use Rattle.std.specs.Prelude.{nat_eq}
use Rattle.std.proofs.lemmas.Bool.{eqb-true}
use Rattle.cc_capture.specs.declared.var.Var.{Var}
use Rattle.cc_capture.specs.declared.var.Var.TheVariants.{Bound, Free}
use Rattle.cc_capture.specs.declared.var.Elem.{Elem}
use Rattle.cc_capture.specs.declared.var.Elem.TheVariants.{Var as Variable, Cap, Hole}
use Rattle.cc_capture.specs.Sets.{Set}
use Rattle.cc_capture.proofs.Membership.{Member-flat_image}
use Rattle.cc_core.specs.Shapes.{Shape, TypeVariable}
use Rattle.cc_core.specs.Terms.{Term}
use Rattle.cc_core.specs.Contexts.{Bind, TermEntry, TypeEntry, Context, lookup}
use Rattle.cc_core.specs.Traversal.{Action, act, act_set, act_term}
use Rattle.cc_core.specs.Substitution.{single, moved_element, opened, opened_set, putting, putting_shape, renamed_variable, free_shape, freely, overridden, opening}
use Rattle.cc_core.specs.Occurrences.{Meets, bound_within}
use Rattle.cc_core.specs.WellFormed.{Kind, TermKind, TypeKind, kind_of, kinds_of}
use Rattle.cc_core.specs.Subcapturing.{Subcaptures, element, variable, SubcapturesSet}
use Rattle.cc_core.proofs.Lookups.{lookup-newest, lookup-older, lookup-below}
use Rattle.cc_core.proofs.SubcapturingLemmas.{subcaptures_above, subcaptures_along}
use Rattle.cc_core.proofs.Moving.{Member-single}
use Rattle.cc_core.proofs.FreeActions.{free-level}
use Rattle.cc_core.proofs.Levels.{freely-still, acted-level}
use Rattle.cc_core.proofs.Renaming.{IsFree-freely, overridden-same, overridden-below, freely-agree}
use Rattle.cc_core.proofs.FreshOpenings.{fresh_opening, fresh_shape}
use Rattle.cc_core.proofs.KindFacts.{IsOfKind, IsKindedElement, IsKindedSet, IsKinded}
use Rattle.cc_core.proofs.KindRespecting.{closed_kinded}
use Rattle.cc_core.proofs.KindedActions.{KeepsKinds, IsKinded-meets}
use Rattle.cc_typing_laws.proofs.DirectSubtyping.{SubtypesDirectly, alike, under_any, through_bound, functions, type_functions, boxes, direct_transitive}
use Rattle.cc_typing_laws.proofs.FormedContexts.{length-kinds_of, kinded_single, kinds_bound, some_is, HasKinds-opened, positions_of, places_of}
use Rattle.cc_core.proofs.Sorts.{SetSort, ShapeSort, TermSort, Sort, Syntax, HasKinds, acted, HasKinds-act}

-- a context with entries added
pub data Longer (d : Context) : Context → Type 0 where
  as_is : Longer d d
  more : {e : Context} (b : Bind) → Longer d e → Longer d (b ∷ e)

pub longer-tail : {b : Bind} {d e : Context} → Longer (b ∷ d) e → Longer d e
longer-tail {b = b} as_is = more b as_is
longer-tail (more x l) = more x (longer-tail l)

pub lookup-kept : {d e : Context} → Longer d e → (p : ℕ) (b : Bind) → lookup d p ≡ Some b → lookup e p ≡ Some b
lookup-kept as_is p b there = there
lookup-kept (more {e = e} x l) p b there = lookup-older x e p b (lookup-kept l p b there)

pub subcaptures-kept : {d e : Context} → Longer d e → (left right : Set) → SubcapturesSet d left right → SubcapturesSet e left right
subcaptures-kept {e = e} l left right below x here =
    subcaptures_along (below x here) e (λ position shape declared above there each. variable (lookup-kept l position (TermEntry shape declared) there) each)

pub subcaptures_element-kept : {d e : Context} → Longer d e → (x : Elem) (right : Set) → Subcaptures d x right → Subcaptures e x right
subcaptures_element-kept {e = e} l x right below =
    subcaptures_along below e (λ position shape declared above there each. variable (lookup-kept l position (TermEntry shape declared) there) each)

-- what stands in a context with one entry more
pub lookup_cases : {A : Type 0} (b : A) (g : List A) (p : ℕ) (x : A) → lookup (b ∷ g) p ≡ Some x → ((p ≡ length g) × (x ≡ b)) ⊎ ((p < length g) × (lookup g p ≡ Some x))
lookup_cases b g p x e =
    elim (nat_eq p (length g)) as (λ t. nat_eq p (length g) ≡ t → cond t (Some b) (lookup g p) ≡ Some x → ((p ≡ length g) × (x ≡ b)) ⊎ ((p < length g) × (lookup g p ≡ Some x))) [
      | true ↦ λ same found. inl (eqb-true p (length g) same, sym (some_is b x found))
      | false ↦ λ _ found. inr (lookup-below g p x found, found)
    ] refl e

-- A variable has an entry whose shape is below each shape above the given one, in all longer contexts.
pub record EntryBelow (d : Context) (position : ℕ) (s : Shape) : Type 0 where
  pub shape : Shape
  pub set : Set
  pub there : lookup d position ≡ Some (TermEntry shape set)
  pub below : (e : Context) → Longer d e → (above : Shape) → SubtypesDirectly e s above → SubtypesDirectly e shape above

-- The map sends each variable of the first context to one of the second that is below what it was below, and each type
-- variable to a shape that is below what its bound was below. This is asked of all longer contexts too, so that it holds
-- under binders.
pub record Maps (g d : Context) (to : ℕ → ℕ) (shapes : ℕ → Shape) : Type 0 where
  pub closed : (p : ℕ) → Meets (bound_within 0) 0 (shapes p)
  pub kinded : (p : ℕ) (b : Shape) → lookup g p ≡ Some (TypeEntry b) → IsKinded (kinds_of d) [] (shapes p)
  pub sends : (p : ℕ) (s : Shape) (c : Set) → lookup g p ≡ Some (TermEntry s c) → shapes p ≡ TypeVariable (Free (to p))
  pub sets : (p : ℕ) (s : Shape) (c : Set) → lookup g p ≡ Some (TermEntry s c) → (e : Context) → Longer d e → (above : Set)
      → SubcapturesSet e (act_set (freely to shapes) 0 c) above → Subcaptures e (Variable (Free (to p))) above
  pub bounds : (p : ℕ) (b : Shape) → lookup g p ≡ Some (TypeEntry b) → (e : Context) → Longer d e → (above : Shape)
      → SubtypesDirectly e (act (freely to shapes) 0 b) above → SubtypesDirectly e (shapes p) above
  pub entries : (p : ℕ) (s : Shape) (c : Set) → lookup g p ≡ Some (TermEntry s c) → EntryBelow d (to p) (act (freely to shapes) 0 s)

-- the entry on which an action was taken
abbrev pub acted_entry : Action → Bind → Bind
acted_entry f (TermEntry s c) = TermEntry (act f 0 s) (act_set f 0 c)
acted_entry f (TypeEntry b) = TypeEntry (act f 0 b)

module _ (g d : Context) (to : ℕ → ℕ) (shapes : ℕ → Shape) (maps : Maps g d to shapes) where
  -- a map takes what is of a kind to what is of it
  mapped_variable : (passed : List Kind) (v : Var) → IsOfKind (kinds_of g) passed v TermKind → IsOfKind (kinds_of d) passed (renamed_variable to v) TermKind
  mapped_variable passed (Bound i) h = h
  mapped_variable passed (Free p) h =
      let found = entry_of_term g p h in
      let entry = maps.entries p found.0 found.1 found.2 in
      kind_of_entry d (to p) (TermEntry entry.shape entry.set) entry.there

  mapped_element : (passed : List Kind) (x : Elem) → IsKindedElement (kinds_of g) passed x → IsKindedElement (kinds_of d) passed (moved_element (renamed_variable to) x)
  mapped_element passed (Variable v) h = mapped_variable passed v h
  mapped_element passed Cap h = tt
  mapped_element passed (Hole n) h = tt

  mapped_type_variable : (passed : List Kind) (v : Var) → IsOfKind (kinds_of g) passed v TypeKind → IsKinded (kinds_of d) passed (free_shape shapes v)
  mapped_type_variable passed (Bound i) h = h
  mapped_type_variable passed (Free p) h =
      let found = entry_of_type g p h in
      closed_kinded ShapeSort (kinds_of d) passed (shapes p) (maps.kinded p found.0 found.1)

  pub maps_kinds : (beyond : List Kind) → KeepsKinds (freely to shapes) (kinds_of g) beyond (kinds_of d) beyond
  maps_kinds beyond = record {
    element = λ passed x h. kinded_single (kinds_of d) (passed ++ beyond) (moved_element (renamed_variable to) x) (mapped_element (passed ++ beyond) x h);
    shape = λ passed v h. mapped_type_variable (passed ++ beyond) v h;
    variable = λ passed v h. mapped_variable (passed ++ beyond) v h;
  }

  pub map_kinds : (beyond : List Kind) (sort : Sort) (x : Syntax sort) → HasKinds sort (kinds_of g) beyond x → HasKinds sort (kinds_of d) beyond (acted sort (freely to shapes) 0 x)
  map_kinds beyond sort x h = HasKinds-act sort (freely to shapes) (kinds_of g) beyond (kinds_of d) beyond (maps_kinds beyond) [] x h

  -- a map moves an open index nowhere, so the depth does not matter
  pub map_level : (m n : ℕ) (s : Shape) → act (freely to shapes) m s ≡ act (freely to shapes) n s
  map_level m n s = free-level (freely to shapes) (IsFree-freely to shapes maps.closed) m n s

  pub map_kinded : (beyond : List Kind) (n : ℕ) (s : Shape) → IsKinded (kinds_of g) beyond s → IsKinded (kinds_of d) beyond (act (freely to shapes) n s)
  map_kinded beyond n s h = subst (IsKinded (kinds_of d) beyond) (map_level 0 n s) (map_kinds beyond ShapeSort s h)

  -- subcapturing goes along
  pub map_element : {x : Elem} {above : Set} → Subcaptures g x above → SubcapturesSet d (single (moved_element (renamed_variable to) x)) (act_set (freely to shapes) 0 above)
  map_element (element {e = x} {set = above} here) y h =
      element ((Member-flat_image ((freely to shapes).element 0) y above).1 (x, here, h))
  map_element (variable {position = p} {shape = s} {declared = c} {set = above} there each) y h =
      subst (λ z. Subcaptures d z (act_set (freely to shapes) 0 above)) (sym (Member-single y (Variable (Free (to p))) h))
      (maps.sets p s c there d as_is (act_set (freely to shapes) 0 above)
      (λ z m.
      let from = (Member-flat_image ((freely to shapes).element 0) z c).0 m in
      map_element (each from.0 from.1) z from.2))

  pub map_subcaptures : (left right : Set) → SubcapturesSet g left right → SubcapturesSet d (act_set (freely to shapes) 0 left) (act_set (freely to shapes) 0 right)
  map_subcaptures left right below z m =
      let from = (Member-flat_image ((freely to shapes).element 0) z left).0 m in
      map_element (below from.0 from.1) z from.2

-- the two maps agree on what is well formed before the binder
module _ (g : Context) (to to' : ℕ → ℕ) (shapes shapes' : ℕ → Shape) (same : (p : ℕ) → p < length g → to' p ≡ to p) (same_shapes : (p : ℕ) → p < length g → shapes' p ≡ shapes p) where
  pub agree_kinded : (sort : Sort) (x : Syntax sort) → HasKinds sort (kinds_of g) [] x → acted sort (freely to' shapes') 0 x ≡ acted sort (freely to shapes) 0 x
  agree_kinded sort x h = freely-agree (length g) to to' shapes shapes' same same_shapes sort 0 x (positions_of sort g [] x h)

module _ (g d : Context) (to : ℕ → ℕ) (shapes : ℕ → Shape) (maps : Maps g d to shapes) (formed : IsKindedContext g) (b : Bind) (entry : IsKindedEntry (kinds_of g) b) where
  to_under : ℕ → ℕ
  to_under = overridden to (length g) (length d)

  shapes_under : ℕ → Shape
  shapes_under = overridden shapes (length g) (TypeVariable (Free (length d)))

  d_under : Context
  d_under = acted_entry (freely to shapes) b ∷ d

  same_shape : (s : Shape) → IsKinded (kinds_of g) [] s → act (freely to_under shapes_under) 0 s ≡ act (freely to shapes) 0 s
  unfolding to_under shapes_under
  same_shape s h = agree_kinded g to to_under shapes shapes_under (overridden-below to (length g) (length d)) (overridden-below shapes (length g) (TypeVariable (Free (length d)))) ShapeSort s h

  same_set : (c : Set) → IsKindedSet (kinds_of g) [] c → act_set (freely to_under shapes_under) 0 c ≡ act_set (freely to shapes) 0 c
  unfolding to_under shapes_under
  same_set c h = agree_kinded g to to_under shapes shapes_under (overridden-below to (length g) (length d)) (overridden-below shapes (length g) (TypeVariable (Free (length d)))) SetSort c h

  newest_there : (e : Context) → Longer d_under e → (x : Bind) → x ≡ b → lookup e (length d) ≡ Some (acted_entry (freely to shapes) x)
  unfolding d_under
  newest_there e l x same = lookup-kept l (length d) (acted_entry (freely to shapes) x) (lookup-newest (acted_entry (freely to shapes) b) d ∙ ap (λ y. Some (acted_entry (freely to shapes) y)) (sym same))

  at_newest : (p : ℕ) → p ≡ length g → to_under p ≡ length d
  unfolding to_under
  at_newest p same = ap to_under same ∙ overridden-same to (length g) (length d)

  shape_at_newest : (p : ℕ) → p ≡ length g → shapes_under p ≡ TypeVariable (Free (length d))
  unfolding shapes_under
  shape_at_newest p same = ap shapes_under same ∙ overridden-same shapes (length g) (TypeVariable (Free (length d)))

  at_older : (p : ℕ) → p < length g → to_under p ≡ to p
  unfolding to_under
  at_older p below = overridden-below to (length g) (length d) p below

  shape_at_older : (p : ℕ) → p < length g → shapes_under p ≡ shapes p
  unfolding shapes_under
  shape_at_older p below = overridden-below shapes (length g) (TypeVariable (Free (length d))) p below

  entry_is : (x : Bind) → x ≡ b → IsKindedEntry (kinds_of g) x
  entry_is x same = subst (IsKindedEntry (kinds_of g)) (sym same) entry

  sets_under : (p : ℕ) (s : Shape) (c : Set) → lookup (b ∷ g) p ≡ Some (TermEntry s c) → (e : Context) → Longer d_under e → (above : Set)
      → SubcapturesSet e (act_set (freely to_under shapes_under) 0 c) above → Subcaptures e (Variable (Free (to_under p))) above
  unfolding d_under
  sets_under p s c there e l above below =
      elim (lookup_cases b g p (TermEntry s c) there) as (λ _. Subcaptures e (Variable (Free (to_under p))) above) [
        | inl new ↦
            subst (λ q. Subcaptures e (Variable (Free q)) above) (sym (at_newest p new.0))
            (variable (newest_there e l (TermEntry s c) new.1) (subst (λ x. SubcapturesSet e x above) (same_set c (entry_is (TermEntry s c) new.1).1) below))
        | inr old ↦
            subst (λ q. Subcaptures e (Variable (Free q)) above) (sym (at_older p old.0))
            (maps.sets p s c old.1 e (longer-tail l) above (subst (λ x. SubcapturesSet e x above) (same_set c (entry_kinded g p (TermEntry s c) formed old.1).1) below))
      ]

  bounds_under : (p : ℕ) (a : Shape) → lookup (b ∷ g) p ≡ Some (TypeEntry a) → (e : Context) → Longer d_under e → (above : Shape)
      → SubtypesDirectly e (act (freely to_under shapes_under) 0 a) above → SubtypesDirectly e (shapes_under p) above
  unfolding d_under
  bounds_under p a there e l above below =
      elim (lookup_cases b g p (TypeEntry a) there) as (λ _. SubtypesDirectly e (shapes_under p) above) [
        | inl new ↦
            subst (λ x. SubtypesDirectly e x above) (sym (shape_at_newest p new.0))
            (through_bound (newest_there e l (TypeEntry a) new.1) (subst (λ x. SubtypesDirectly e x above) (same_shape a (entry_is (TypeEntry a) new.1)) below))
        | inr old ↦
            subst (λ x. SubtypesDirectly e x above) (sym (shape_at_older p old.0))
            (maps.bounds p a old.1 e (longer-tail l) above (subst (λ x. SubtypesDirectly e x above) (same_shape a (entry_kinded g p (TypeEntry a) formed old.1)) below))
      ]

  entries_under : (p : ℕ) (s : Shape) (c : Set) → lookup (b ∷ g) p ≡ Some (TermEntry s c) → EntryBelow d_under (to_under p) (act (freely to_under shapes_under) 0 s)
  unfolding d_under
  entries_under p s c there =
      elim (lookup_cases b g p (TermEntry s c) there) as (λ _. EntryBelow d_under (to_under p) (act (freely to_under shapes_under) 0 s)) [
        | inl new ↦
            record {
              shape = act (freely to shapes) 0 s;
              set = act_set (freely to shapes) 0 c;
              there = subst (λ q. lookup d_under q ≡ Some (TermEntry (act (freely to shapes) 0 s) (act_set (freely to shapes) 0 c))) (sym (at_newest p new.0)) (newest_there d_under as_is (TermEntry s c) new.1);
              below = λ e l above h. subst (λ x. SubtypesDirectly e x above) (same_shape s (entry_is (TermEntry s c) new.1).0) h;
            }
        | inr old ↦
            let at = maps.entries p s c old.1 in
            record {
              shape = at.shape;
              set = at.set;
              there = subst (λ q. lookup d_under q ≡ Some (TermEntry at.shape at.set)) (sym (at_older p old.0)) (lookup-older (acted_entry (freely to shapes) b) d (to p) (TermEntry at.shape at.set) at.there);
              below = λ e l above h. at.below e (longer-tail l) above (subst (λ x. SubtypesDirectly e x above) (same_shape s (entry_kinded g p (TermEntry s c) formed old.1).0) h);
            }
      ]

  kinded_under : (p : ℕ) (a : Shape) → lookup (b ∷ g) p ≡ Some (TypeEntry a) → IsKinded (kinds_of d_under) [] (shapes_under p)
  unfolding d_under
  kinded_under p a there =
      elim (lookup_cases b g p (TypeEntry a) there) as (λ _. IsKinded (kinds_of d_under) [] (shapes_under p)) [
        | inl new ↦
            subst (IsKinded (kinds_of d_under) []) (sym (shape_at_newest p new.0))
            (kind_of_entry d_under (length d) (TypeEntry (act (freely to shapes) 0 a)) (newest_there d_under as_is (TypeEntry a) new.1))
        | inr old ↦
            subst (IsKinded (kinds_of d_under) []) (sym (shape_at_older p old.0))
            (IsKinded-added (kind_of (acted_entry (freely to shapes) b)) (kinds_of d) [] (shapes p) (maps.kinded p a old.1))
      ]

  sends_under : (p : ℕ) (s : Shape) (c : Set) → lookup (b ∷ g) p ≡ Some (TermEntry s c) → shapes_under p ≡ TypeVariable (Free (to_under p))
  sends_under p s c there =
      elim (lookup_cases b g p (TermEntry s c) there) as (λ _. shapes_under p ≡ TypeVariable (Free (to_under p))) [
        | inl new ↦ shape_at_newest p new.0 ∙ ap (λ q. TypeVariable (Free q)) (sym (at_newest p new.0))
        | inr old ↦ shape_at_older p old.0 ∙ maps.sends p s c old.1 ∙ ap (λ q. TypeVariable (Free q)) (sym (at_older p old.0))
      ]

  closed_under : (p : ℕ) → Meets (bound_within 0) 0 (shapes_under p)
  unfolding shapes_under
  closed_under p = elim (nat_eq p (length g)) as (λ t. Meets (bound_within 0) 0 (cond t (TypeVariable (Free (length d))) (shapes p))) [ true ↦ tt | false ↦ maps.closed p ]

  pub maps_under : Maps (b ∷ g) (acted_entry (freely to shapes) b ∷ d) (overridden to (length g) (length d)) (overridden shapes (length g) (TypeVariable (Free (length d))))
  unfolding to_under shapes_under d_under
  maps_under = record { closed = closed_under; kinded = kinded_under; sends = sends_under; sets = sets_under; bounds = bounds_under; entries = entries_under }

-- what stands under a binder, opened before the map or after it
pub opened_map : (g d : Context) (to : ℕ → ℕ) (shapes : ℕ → Shape) → Maps g d to shapes → (sort : Sort) (k : Kind) (x : Syntax sort) → HasKinds sort (kinds_of g) (k ∷ []) x
    → acted sort (freely (overridden to (length g) (length d)) (overridden shapes (length g) (TypeVariable (Free (length d))))) 0 (acted sort (opening (length g)) 0 x)
    ≡ acted sort (opening (length d)) 0 (acted sort (freely to shapes) 1 x)
opened_map g d to shapes maps sort k x h =
    fresh_opening (length g) (length d) to shapes maps.closed sort 0 x (positions_of sort g (k ∷ []) x h)
    ∙ ap (acted sort (opening (length d)) 0) (acted-level sort (freely to shapes) (IsFree-freely to shapes maps.closed) 0 1 x)

-- subtyping goes along
pub map_subtypes : {g : Context} {left right : Shape} → SubtypesDirectly g left right → (d : Context) (to : ℕ → ℕ) (shapes : ℕ → Shape) → Maps g d to shapes → IsKindedContext g
    → IsKinded (kinds_of g) [] left → IsKinded (kinds_of g) [] right → SubtypesDirectly d (act (freely to shapes) 0 left) (act (freely to shapes) 0 right)
map_subtypes alike d to shapes maps formed kl kr = alike
map_subtypes under_any d to shapes maps formed kl kr = under_any
map_subtypes (through_bound {context = g} {position = p} {bound = b} {right = right} there rest) d to shapes maps formed kl kr =
    maps.bounds p b there d as_is (act (freely to shapes) 0 right) (map_subtypes rest d to shapes maps formed (entry_kinded g p (TypeEntry b) formed there) kr)
map_subtypes (functions {context = g} {takes = t} {takes' = t'} {gives = u} {gives' = u'} {c = c} {c' = c'} {e = e} {e' = e'} sets takes results body) d to shapes maps formed kl kr =
    let entry : IsKindedEntry (kinds_of g) (TermEntry t' c') = (kr.0, kr.1) in
    let under = maps_under g d to shapes maps formed (TermEntry t' c') entry in
    let d' : Context = TermEntry (act (freely to shapes) 0 t') (act_set (freely to shapes) 0 c') ∷ d in
    let to' : ℕ → ℕ = overridden to (length g) (length d) in
    let shapes' : ℕ → Shape = overridden shapes (length g) (TypeVariable (Free (length d))) in
    let opens = opened_map g d to shapes maps ShapeSort TermKind in
    let opens_set = opened_map g d to shapes maps SetSort TermKind in
    let len = length-kinds_of g in
    let body' : SubtypesDirectly d' (act (freely to' shapes') 0 (opened (length g) u)) (act (freely to' shapes') 0 (opened (length g) u')) =
    map_subtypes body d' to' shapes' under (entry, formed) (HasKinds-opened (length g) TermKind (kinds_of g) len ShapeSort u kl.2) (HasKinds-opened (length g) TermKind (kinds_of g) len ShapeSort u' kr.2) in
    let results' = map_subcaptures (TermEntry t' c' ∷ g) d' to' shapes' under (opened_set (length g) e) (opened_set (length g) e') results in
    functions (map_subcaptures g d to shapes maps c' c sets) (map_subtypes takes d to shapes maps formed kr.0 kl.0)
    (subst (λ x. SubcapturesSet d' x (opened_set (length d) (act_set (freely to shapes) 1 e'))) (opens_set e kl.3)
    (subst (λ x. SubcapturesSet d' (act_set (freely to' shapes') 0 (opened_set (length g) e)) x) (opens_set e' kr.3) results'))
    (subst (λ x. SubtypesDirectly d' x (opened (length d) (act (freely to shapes) 1 u'))) (opens u kl.2)
    (subst (λ x. SubtypesDirectly d' (act (freely to' shapes') 0 (opened (length g) u)) x) (opens u' kr.2) body'))
map_subtypes (type_functions {context = g} {bound = b} {gives = u} {gives' = u'} {e = e} {e' = e'} results body) d to shapes maps formed kl kr =
    let entry : IsKindedEntry (kinds_of g) (TypeEntry b) = kr.0 in
    let under = maps_under g d to shapes maps formed (TypeEntry b) entry in
    let d' : Context = TypeEntry (act (freely to shapes) 0 b) ∷ d in
    let to' : ℕ → ℕ = overridden to (length g) (length d) in
    let shapes' : ℕ → Shape = overridden shapes (length g) (TypeVariable (Free (length d))) in
    let opens = opened_map g d to shapes maps ShapeSort TypeKind in
    let opens_set = opened_map g d to shapes maps SetSort TypeKind in
    let len = length-kinds_of g in
    let body' : SubtypesDirectly d' (act (freely to' shapes') 0 (opened (length g) u)) (act (freely to' shapes') 0 (opened (length g) u')) =
    map_subtypes body d' to' shapes' under (entry, formed) (HasKinds-opened (length g) TypeKind (kinds_of g) len ShapeSort u kl.1) (HasKinds-opened (length g) TypeKind (kinds_of g) len ShapeSort u' kr.1) in
    let results' = map_subcaptures (TypeEntry b ∷ g) d' to' shapes' under (opened_set (length g) e) (opened_set (length g) e') results in
    type_functions
    (subst (λ x. SubcapturesSet d' x (opened_set (length d) (act_set (freely to shapes) 1 e'))) (opens_set e kl.2)
    (subst (λ x. SubcapturesSet d' (act_set (freely to' shapes') 0 (opened_set (length g) e)) x) (opens_set e' kr.2) results'))
    (subst (λ x. SubtypesDirectly d' x (opened (length d) (act (freely to shapes) 1 u'))) (opens u kl.1)
    (subst (λ x. SubtypesDirectly d' (act (freely to' shapes') 0 (opened (length g) u)) x) (opens u' kr.1) body'))
map_subtypes (boxes {context = g} {c = c} {c' = c'} sets body) d to shapes maps formed kl kr =
    boxes (map_subcaptures g d to shapes maps c c' sets) (map_subtypes body d to shapes maps formed kl.0 kr.0)

-- the map that leaves all as it is
abbrev pub same_position : ℕ → ℕ
same_position p = p

abbrev pub same_variable : ℕ → Shape
same_variable p = TypeVariable (Free p)

pub still : (n : ℕ) (s : Shape) → act (freely same_position same_variable) n s ≡ s
still = freely-still ShapeSort

pub still_set : (n : ℕ) (c : Set) → act_set (freely same_position same_variable) n c ≡ c
still_set = freely-still SetSort

pub still_term : (n : ℕ) (t : Term) → act_term (freely same_position same_variable) n t ≡ t
still_term = freely-still TermSort

-- weakening
pub maps_longer : (g d : Context) → Longer g d → Maps g d same_position same_variable
maps_longer g d l = record {
  closed = λ p. tt;
  kinded = λ p b there. kind_of_entry d p (TypeEntry b) (lookup-kept l p (TypeEntry b) there);
  sends = λ p s c there. refl;
  sets = λ p s c there e m above below. variable (lookup-kept m p (TermEntry s c) (lookup-kept l p (TermEntry s c) there)) (subst (λ x. SubcapturesSet e x above) (still_set 0 c) below);
  bounds = λ p b there e m above below. through_bound (lookup-kept m p (TypeEntry b) (lookup-kept l p (TypeEntry b) there)) (subst (λ x. SubtypesDirectly e x above) (still 0 b) below);
  entries = λ p s c there. record { shape = s; set = c; there = lookup-kept l p (TermEntry s c) there; below = λ e m above h. subst (λ x. SubtypesDirectly e x above) (still 0 s) h };
}

pub subtypes-kept : {g d : Context} → Longer g d → IsKindedContext g → (left right : Shape) → IsKinded (kinds_of g) [] left → IsKinded (kinds_of g) [] right
    → SubtypesDirectly g left right → SubtypesDirectly d left right
subtypes-kept {g = g} {d = d} l formed left right kl kr below =
    subst (λ x. SubtypesDirectly d x right) (still 0 left)
    (subst (λ x. SubtypesDirectly d (act (freely same_position same_variable) 0 left) x) (still 0 right)
    (map_subtypes below d same_position same_variable (maps_longer g d l) formed kl kr))

-- what is below a variable's declared set, or above it
pub variable_below_declared : {g : Context} {p : ℕ} {s : Shape} {c : Set} → lookup g p ≡ Some (TermEntry s c) → Subcaptures g (Variable (Free p)) c
variable_below_declared {c = c} there = variable there (λ x here. element here)

pub no_term_entry : {b s : Shape} {c : Set} → TermEntry s c ≡ TypeEntry b → ⊥
no_term_entry e = cc

pub no_type_entry : {b s : Shape} {c : Set} → TypeEntry b ≡ TermEntry s c → ⊥
no_type_entry e = cc

pub same_shapes_of : {s s' : Shape} {c c' : Set} → TermEntry s c ≡ TermEntry s' c' → s ≡ s'
same_shapes_of e = cc

pub same_sets_of : {s s' : Shape} {c c' : Set} → TermEntry s c ≡ TermEntry s' c' → c ≡ c'
same_sets_of e = cc

pub same_bounds_of : {b b' : Shape} → TypeEntry b ≡ TypeEntry b' → b ≡ b'
same_bounds_of e = cc

-- Substitution of a variable: the newest variable becomes one that is below it.
module _ (g : Context) (formed : IsKindedContext g) (s : Shape) (c : Set) (ks : IsKinded (kinds_of g) [] s) (kc : IsKindedSet (kinds_of g) [] c)
    (q : ℕ) (s' : Shape) (c' : Set) (there : lookup g q ≡ Some (TermEntry s' c')) (below : SubtypesDirectly g s' s) (captured : Subcaptures g (Variable (Free q)) c) where
  value_to : ℕ → ℕ
  value_to = overridden same_position (length g) q

  value_shapes : ℕ → Shape
  value_shapes = overridden same_variable (length g) (TypeVariable (Free q))

  value_same : (x : Shape) → IsKinded (kinds_of g) [] x → act (freely value_to value_shapes) 0 x ≡ x
  unfolding value_to value_shapes
  value_same x h =
      agree_kinded g same_position value_to same_variable value_shapes (overridden-below same_position (length g) q) (overridden-below same_variable (length g) (TypeVariable (Free q))) ShapeSort x h
      ∙ still 0 x

  value_same_set : (x : Set) → IsKindedSet (kinds_of g) [] x → act_set (freely value_to value_shapes) 0 x ≡ x
  unfolding value_to value_shapes
  value_same_set x h =
      agree_kinded g same_position value_to same_variable value_shapes (overridden-below same_position (length g) q) (overridden-below same_variable (length g) (TypeVariable (Free q))) SetSort x h
      ∙ still_set 0 x

  value_new : (p : ℕ) → p ≡ length g → value_to p ≡ q
  unfolding value_to
  value_new p same = ap value_to same ∙ overridden-same same_position (length g) q

  value_old : (p : ℕ) → p < length g → value_to p ≡ p
  unfolding value_to
  value_old p less = overridden-below same_position (length g) q p less

  value_shape_new : (p : ℕ) → p ≡ length g → value_shapes p ≡ TypeVariable (Free q)
  unfolding value_shapes
  value_shape_new p same = ap value_shapes same ∙ overridden-same same_variable (length g) (TypeVariable (Free q))

  value_shape_old : (p : ℕ) → p < length g → value_shapes p ≡ TypeVariable (Free p)
  unfolding value_shapes
  value_shape_old p less = overridden-below same_variable (length g) (TypeVariable (Free q)) p less

  value_closed : (p : ℕ) → Meets (bound_within 0) 0 (value_shapes p)
  unfolding value_shapes
  value_closed p = elim (nat_eq p (length g)) as (λ t. Meets (bound_within 0) 0 (cond t (TypeVariable (Free q)) (TypeVariable (Free p)))) [ true ↦ tt | false ↦ tt ]

  value_kinded : (p : ℕ) (b : Shape) → lookup (TermEntry s c ∷ g) p ≡ Some (TypeEntry b) → IsKinded (kinds_of g) [] (value_shapes p)
  value_kinded p b at =
      elim (lookup_cases (TermEntry s c) g p (TypeEntry b) at) as (λ _. IsKinded (kinds_of g) [] (value_shapes p)) [
        | inl new ↦ absurd (no_type_entry new.1)
        | inr old ↦ subst (IsKinded (kinds_of g) []) (sym (value_shape_old p old.0)) (kind_of_entry g p (TypeEntry b) old.1)
      ]

  value_sends : (p : ℕ) (x : Shape) (y : Set) → lookup (TermEntry s c ∷ g) p ≡ Some (TermEntry x y) → value_shapes p ≡ TypeVariable (Free (value_to p))
  value_sends p x y at =
      elim (lookup_cases (TermEntry s c) g p (TermEntry x y) at) as (λ _. value_shapes p ≡ TypeVariable (Free (value_to p))) [
        | inl new ↦ value_shape_new p new.0 ∙ ap (λ r. TypeVariable (Free r)) (sym (value_new p new.0))
        | inr old ↦ value_shape_old p old.0 ∙ ap (λ r. TypeVariable (Free r)) (sym (value_old p old.0))
      ]

  value_sets : (p : ℕ) (x : Shape) (y : Set) → lookup (TermEntry s c ∷ g) p ≡ Some (TermEntry x y) → (e : Context) → Longer g e → (above : Set)
      → SubcapturesSet e (act_set (freely value_to value_shapes) 0 y) above → Subcaptures e (Variable (Free (value_to p))) above
  value_sets p x y at e l above less =
      elim (lookup_cases (TermEntry s c) g p (TermEntry x y) at) as (λ _. Subcaptures e (Variable (Free (value_to p))) above) [
        | inl new ↦
            subst (λ r. Subcaptures e (Variable (Free r)) above) (sym (value_new p new.0))
            (subcaptures_above (subcaptures_element-kept l (Variable (Free q)) c captured) above
            (subst (λ z. SubcapturesSet e z above) (ap (act_set (freely value_to value_shapes) 0) (same_sets_of new.1) ∙ value_same_set c kc) less))
        | inr old ↦
            subst (λ r. Subcaptures e (Variable (Free r)) above) (sym (value_old p old.0))
            (variable (lookup-kept l p (TermEntry x y) old.1) (subst (λ z. SubcapturesSet e z above) (value_same_set y (entry_kinded g p (TermEntry x y) formed old.1).1) less))
      ]

  value_bounds : (p : ℕ) (b : Shape) → lookup (TermEntry s c ∷ g) p ≡ Some (TypeEntry b) → (e : Context) → Longer g e → (above : Shape)
      → SubtypesDirectly e (act (freely value_to value_shapes) 0 b) above → SubtypesDirectly e (value_shapes p) above
  value_bounds p b at e l above less =
      elim (lookup_cases (TermEntry s c) g p (TypeEntry b) at) as (λ _. SubtypesDirectly e (value_shapes p) above) [
        | inl new ↦ absurd (no_type_entry new.1)
        | inr old ↦
            subst (λ z. SubtypesDirectly e z above) (sym (value_shape_old p old.0))
            (through_bound (lookup-kept l p (TypeEntry b) old.1) (subst (λ z. SubtypesDirectly e z above) (value_same b (entry_kinded g p (TypeEntry b) formed old.1)) less))
      ]

  value_entries : (p : ℕ) (x : Shape) (y : Set) → lookup (TermEntry s c ∷ g) p ≡ Some (TermEntry x y) → EntryBelow g (value_to p) (act (freely value_to value_shapes) 0 x)
  value_entries p x y at =
      elim (lookup_cases (TermEntry s c) g p (TermEntry x y) at) as (λ _. EntryBelow g (value_to p) (act (freely value_to value_shapes) 0 x)) [
        | inl new ↦
            record {
              shape = s';
              set = c';
              there = subst (λ r. lookup g r ≡ Some (TermEntry s' c')) (sym (value_new p new.0)) there;
              below = λ e l above h.
                  direct_transitive e s' s above
                  (subtypes-kept l formed s' s (entry_kinded g q (TermEntry s' c') formed there).0 ks below)
                  (subst (λ z. SubtypesDirectly e z above) (ap (act (freely value_to value_shapes) 0) (same_shapes_of new.1) ∙ value_same s ks) h);
            }
        | inr old ↦
            record {
              shape = x;
              set = y;
              there = subst (λ r. lookup g r ≡ Some (TermEntry x y)) (sym (value_old p old.0)) old.1;
              below = λ e l above h. subst (λ z. SubtypesDirectly e z above) (value_same x (entry_kinded g p (TermEntry x y) formed old.1).0) h;
            }
      ]

  pub maps_value : Maps (TermEntry s c ∷ g) g (overridden same_position (length g) q) (overridden same_variable (length g) (TypeVariable (Free q)))
  unfolding value_to value_shapes
  maps_value = record { closed = value_closed; kinded = value_kinded; sends = value_sends; sets = value_sets; bounds = value_bounds; entries = value_entries }

-- Substitution of a shape: the newest type variable becomes a shape below its bound.
module _ (g : Context) (formed : IsKindedContext g) (b : Shape) (kb : IsKinded (kinds_of g) [] b) (r : Shape) (kr : IsKinded (kinds_of g) [] r) (below : SubtypesDirectly g r b) where
  shape_shapes : ℕ → Shape
  shape_shapes = overridden same_variable (length g) r

  shape_same : (x : Shape) → IsKinded (kinds_of g) [] x → act (freely same_position shape_shapes) 0 x ≡ x
  unfolding shape_shapes
  shape_same x h =
      agree_kinded g same_position same_position same_variable shape_shapes (λ p less. refl) (overridden-below same_variable (length g) r) ShapeSort x h
      ∙ still 0 x

  shape_same_set : (x : Set) → IsKindedSet (kinds_of g) [] x → act_set (freely same_position shape_shapes) 0 x ≡ x
  unfolding shape_shapes
  shape_same_set x h =
      agree_kinded g same_position same_position same_variable shape_shapes (λ p less. refl) (overridden-below same_variable (length g) r) SetSort x h
      ∙ still_set 0 x

  shape_new : (p : ℕ) → p ≡ length g → shape_shapes p ≡ r
  unfolding shape_shapes
  shape_new p same = ap shape_shapes same ∙ overridden-same same_variable (length g) r

  shape_old : (p : ℕ) → p < length g → shape_shapes p ≡ TypeVariable (Free p)
  unfolding shape_shapes
  shape_old p less = overridden-below same_variable (length g) r p less

  shape_closed : (p : ℕ) → Meets (bound_within 0) 0 (shape_shapes p)
  unfolding shape_shapes
  shape_closed p =
      elim (nat_eq p (length g)) as (λ t. Meets (bound_within 0) 0 (cond t r (TypeVariable (Free p)))) [
        | true ↦ IsKinded-meets (kinds_of g) [] (bound_within 0) (kinds_bound (kinds_of g)) [] r kr
        | false ↦ tt
      ]

  shape_kinded : (p : ℕ) (a : Shape) → lookup (TypeEntry b ∷ g) p ≡ Some (TypeEntry a) → IsKinded (kinds_of g) [] (shape_shapes p)
  shape_kinded p a at =
      elim (lookup_cases (TypeEntry b) g p (TypeEntry a) at) as (λ _. IsKinded (kinds_of g) [] (shape_shapes p)) [
        | inl new ↦ subst (IsKinded (kinds_of g) []) (sym (shape_new p new.0)) kr
        | inr old ↦ subst (IsKinded (kinds_of g) []) (sym (shape_old p old.0)) (kind_of_entry g p (TypeEntry a) old.1)
      ]

  shape_sends : (p : ℕ) (x : Shape) (y : Set) → lookup (TypeEntry b ∷ g) p ≡ Some (TermEntry x y) → shape_shapes p ≡ TypeVariable (Free p)
  shape_sends p x y at =
      elim (lookup_cases (TypeEntry b) g p (TermEntry x y) at) as (λ _. shape_shapes p ≡ TypeVariable (Free p)) [
        | inl new ↦ absurd (no_term_entry new.1)
        | inr old ↦ shape_old p old.0
      ]

  shape_sets : (p : ℕ) (x : Shape) (y : Set) → lookup (TypeEntry b ∷ g) p ≡ Some (TermEntry x y) → (e : Context) → Longer g e → (above : Set)
      → SubcapturesSet e (act_set (freely same_position shape_shapes) 0 y) above → Subcaptures e (Variable (Free p)) above
  shape_sets p x y at e l above less =
      elim (lookup_cases (TypeEntry b) g p (TermEntry x y) at) as (λ _. Subcaptures e (Variable (Free p)) above) [
        | inl new ↦ absurd (no_term_entry new.1)
        | inr old ↦ variable (lookup-kept l p (TermEntry x y) old.1) (subst (λ z. SubcapturesSet e z above) (shape_same_set y (entry_kinded g p (TermEntry x y) formed old.1).1) less)
      ]

  shape_bounds : (p : ℕ) (a : Shape) → lookup (TypeEntry b ∷ g) p ≡ Some (TypeEntry a) → (e : Context) → Longer g e → (above : Shape)
      → SubtypesDirectly e (act (freely same_position shape_shapes) 0 a) above → SubtypesDirectly e (shape_shapes p) above
  shape_bounds p a at e l above less =
      elim (lookup_cases (TypeEntry b) g p (TypeEntry a) at) as (λ _. SubtypesDirectly e (shape_shapes p) above) [
        | inl new ↦
            subst (λ z. SubtypesDirectly e z above) (sym (shape_new p new.0))
            (direct_transitive e r b above (subtypes-kept l formed r b kr kb below)
            (subst (λ z. SubtypesDirectly e z above) (ap (act (freely same_position shape_shapes) 0) (same_bounds_of new.1) ∙ shape_same b kb) less))
        | inr old ↦
            subst (λ z. SubtypesDirectly e z above) (sym (shape_old p old.0))
            (through_bound (lookup-kept l p (TypeEntry a) old.1) (subst (λ z. SubtypesDirectly e z above) (shape_same a (entry_kinded g p (TypeEntry a) formed old.1)) less))
      ]

  shape_entries : (p : ℕ) (x : Shape) (y : Set) → lookup (TypeEntry b ∷ g) p ≡ Some (TermEntry x y) → EntryBelow g p (act (freely same_position shape_shapes) 0 x)
  shape_entries p x y at =
      elim (lookup_cases (TypeEntry b) g p (TermEntry x y) at) as (λ _. EntryBelow g p (act (freely same_position shape_shapes) 0 x)) [
        | inl new ↦ absurd (no_term_entry new.1)
        | inr old ↦ record {
          shape = x;
          set = y;
          there = old.1;
          below = λ e l above h. subst (λ z. SubtypesDirectly e z above) (shape_same x (entry_kinded g p (TermEntry x y) formed old.1).0) h;
        }
      ]

  pub maps_shape : Maps (TypeEntry b ∷ g) g same_position (overridden same_variable (length g) r)
  unfolding shape_shapes
  maps_shape = record { closed = shape_closed; kinded = shape_kinded; sends = shape_sends; sets = shape_sets; bounds = shape_bounds; entries = shape_entries }

-- Opening at a fresh position and mapping that to a variable puts the variable, and to a shape puts the shape.
no_open_variable : (p : ℕ) → Meets (bound_within 0) 0 (same_variable p)
no_open_variable p = tt

pub value_put : (g : Context) (q : ℕ) (k : Kind) (sort : Sort) (x : Syntax sort) → HasKinds sort (kinds_of g) (k ∷ []) x
    → acted sort (freely (overridden same_position (length g) q) (overridden same_variable (length g) (TypeVariable (Free q)))) 0 (acted sort (opening (length g)) 0 x) ≡ acted sort (putting (Free q)) 0 x
value_put g q k sort x h =
    fresh_opening (length g) q same_position same_variable no_open_variable sort 0 x (positions_of sort g (k ∷ []) x h)
    ∙ ap (acted sort (putting (Free q)) 0) (freely-still sort 0 x)

pub shape_put : (g : Context) (r : Shape) (sort : Sort) (x : Syntax sort) → HasKinds sort (kinds_of g) (TypeKind ∷ []) x
    → acted sort (freely same_position (overridden same_variable (length g) r)) 0 (acted sort (opening (length g)) 0 x) ≡ acted sort (putting_shape r) 0 x
shape_put g r sort x h =
    fresh_shape (length g) r same_position same_position same_variable (λ p less. refl) no_open_variable sort 0 x (places_of sort g x h)
    ∙ ap (acted sort (putting_shape r) 0) (freely-still sort 0 x)
