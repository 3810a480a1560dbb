-- Which actions respect kinds.
use Rattle.std.proofs.Common.{◌≡◌, ◌≢◌, ℕ, ◌+◌, ◌<◌, List, [], ◌∷◌, ◌++◌, length, Some, inl, inr, sym, ap, ◌∙◌, subst, arith}
use Rattle.std.specs.List.{slice_get}
use Rattle.std.proofs.Common.{length-append}
use Rattle.std.proofs.lemmas.Bool.{cases_eq}
use Rattle.cc_capture.specs.declared.var.Var.{Var}
use Rattle.cc_capture.specs.declared.var.Var.TheVariants.{Bound, Free}
use Rattle.cc_capture.specs.declared.var.Elem.{Elem}
use Rattle.cc_capture.specs.declared.var.Elem.TheVariants.{Var as Variable, Cap, Hole}
use Rattle.cc_capture.specs.Sets.{Set}
use Rattle.cc_core.specs.Shapes.{Shape}
use Rattle.cc_core.specs.Contexts.{lookup}
use Rattle.cc_core.specs.Substitution.{single, moved_element, moving, put_variable, closed_variable, put_shape, putting_shape, renamed_variable, free_shape, freely, filled_element, filling_in}
use Rattle.cc_core.specs.WellFormed.{Kind, TermKind, TypeKind}
use Rattle.cc_core.specs.Occurrences.{IsAskedOf, HasBinder, bound_within, IsPositionBelow, positions_below, under_type_binder, no_outermost_type, under_term_binder}
use Rattle.cc_core.proofs.Moving.{Member-single, moving-identity}
use Rattle.cc_core.proofs.Opening.{put_variable-same, put_variable-other, closed_variable-same, closed_variable-other}
use Rattle.cc_core.proofs.FreeActions.{put_shape-same, put_shape-other}
use Rattle.cc_core.proofs.Lookups.{lookup-newest, lookup-below, lookup-older, lookup-more, lookup-cases, slice_get-within, slice_get-last, slice_get-not_last, slice_get-beyond}
use Rattle.cc_core.proofs.KindFacts.{IsOfKind, IsKindedElement, IsKindedSet, IsKinded}
use Rattle.cc_core.proofs.KindedActions.{KeepsKinds, KindsGive}
use Rattle.cc_core.proofs.Sorts.{HasKinds, HasKinds-act, SetSort, ShapeSort, Sort, Syntax, acted, acted-keeping}

-- a move that takes each variable to one of the same kind
abbrev pub MovesKinds : (ℕ → Var → Var) → List Kind → List Kind → List Kind → List Kind → Type 0
MovesKinds move kinds beyond new_kinds new_beyond =
    (passed : List Kind) (v : Var) (k : Kind) → IsOfKind kinds (passed ++ beyond) v k
    → IsOfKind new_kinds (passed ++ new_beyond) (move (length passed) v) k

pub single_kinded : (kinds passed : List Kind) (x : Elem) → IsKindedElement kinds passed x
    → IsKindedSet kinds passed (single x)
single_kinded kinds passed x k y h = subst (IsKindedElement kinds passed) (sym (Member-single y x h)) k

pub KeepsKinds-moving : (move : ℕ → Var → Var) (kinds beyond new_kinds new_beyond : List Kind)
    → MovesKinds move kinds beyond new_kinds new_beyond → KeepsKinds (moving move) kinds beyond new_kinds new_beyond
KeepsKinds-moving move kinds beyond new_kinds new_beyond moves = record {
  element =
      λ passed x k. single_kinded new_kinds (passed ++ new_beyond) (moved_element (move (length passed)) x)
      (moved passed x k);
  shape = λ passed v k. moves passed v TypeKind k;
  variable = λ passed v k. moves passed v TermKind k;
}
  where
    moved : (passed : List Kind) (x : Elem) → IsKindedElement kinds (passed ++ beyond) x
        → IsKindedElement new_kinds (passed ++ new_beyond) (moved_element (move (length passed)) x)
    moved passed (Variable v) k = moves passed v TermKind k
    moved passed Cap k = tt
    moved passed (Hole n) k = tt

-- opening at the fresh position of an entry of the binder's kind
pub MovesKinds-opening : (kinds : List Kind) (kind : Kind)
    → MovesKinds (put_variable (Free (length kinds))) kinds (kind ∷ []) (kind ∷ kinds) []
MovesKinds-opening kinds kind passed (Free p) k e = lookup-older kind kinds p k e
MovesKinds-opening kinds kind passed (Bound i) k e =
    elim (cases_eq i (length passed)) as (λ _. IsOfKind (kind ∷ kinds) (passed ++ []) (put_variable (Free (length kinds)) (length passed) (Bound i)) k) [
      | inl same ↦
          subst (λ v. IsOfKind (kind ∷ kinds) (passed ++ []) v k)
          (sym (ap (λ j. put_variable (Free (length kinds)) (length passed) (Bound j)) same ∙ put_variable-same (Free (length kinds)) (length passed)))
          (lookup-newest kind kinds ∙ sym (slice_get-last passed kind) ∙ ap (slice_get (passed ++ kind ∷ [])) (sym same) ∙ e)
      | inr other ↦
          subst (λ v. IsOfKind (kind ∷ kinds) (passed ++ []) v k)
          (sym (put_variable-other (Free (length kinds)) (length passed) i other))
          (slice_get-not_last passed kind i k e other)
    ]

-- closing the newest position
pub MovesKinds-closing : (kinds : List Kind) (kind : Kind)
    → MovesKinds (closed_variable (length kinds)) (kind ∷ kinds) [] kinds (kind ∷ [])
MovesKinds-closing kinds kind passed (Bound i) k e = slice_get-beyond passed (kind ∷ []) i k e
MovesKinds-closing kinds kind passed (Free p) k e =
    elim (lookup-cases kind kinds p k e) as (λ _. IsOfKind kinds (passed ++ kind ∷ []) (closed_variable (length kinds) (length passed) (Free p)) k) [
      | inl here ↦
          subst (λ v. IsOfKind kinds (passed ++ kind ∷ []) v k)
          (sym (ap (λ q. closed_variable (length kinds) (length passed) (Free q)) here.0 ∙ closed_variable-same (length kinds) (length passed)))
          (slice_get-last passed kind ∙ ap (λ j. Some j) here.1)
      | inr older ↦
          let below : p < length kinds = lookup-below kinds p k older in
          subst (λ v. IsOfKind kinds (passed ++ kind ∷ []) v k) (sym (closed_variable-other (length kinds) (length passed) p (λ same. omega arith))) older
    ]

-- putting a variable of the binder's kind
pub MovesKinds-putting : (kinds : List Kind) (kind : Kind) (by : Var) → IsOfKind kinds [] by kind
    → MovesKinds (put_variable by) kinds (kind ∷ []) kinds []
MovesKinds-putting kinds kind (Bound j) of passed v k e = cc
MovesKinds-putting kinds kind (Free q) of passed (Free p) k e = e
MovesKinds-putting kinds kind (Free q) of passed (Bound i) k e =
    elim (cases_eq i (length passed)) as (λ _. IsOfKind kinds (passed ++ []) (put_variable (Free q) (length passed) (Bound i)) k) [
      | inl same ↦
          subst (λ v. IsOfKind kinds (passed ++ []) v k)
          (sym (ap (λ j. put_variable (Free q) (length passed) (Bound j)) same ∙ put_variable-same (Free q) (length passed)))
          (of ∙ sym (slice_get-last passed kind) ∙ ap (slice_get (passed ++ kind ∷ [])) (sym same) ∙ e)
      | inr other ↦
          subst (λ v. IsOfKind kinds (passed ++ []) v k) (sym (put_variable-other (Free q) (length passed) i other)) (slice_get-not_last passed kind i k e other)
    ]

-- renaming to positions of the same kinds
pub MovesKinds-renaming : (to : ℕ → ℕ) (kinds new_kinds beyond : List Kind)
    → ((p : ℕ) (k : Kind) → lookup kinds p ≡ Some k → lookup new_kinds (to p) ≡ Some k)
    → MovesKinds (λ d v. renamed_variable to v) kinds beyond new_kinds beyond
MovesKinds-renaming to kinds new_kinds beyond same passed (Bound i) k e = e
MovesKinds-renaming to kinds new_kinds beyond same passed (Free p) k e = same p k e

-- more entries, and more binders beyond
pub MovesKinds-more : (more kinds beyond : List Kind) → MovesKinds (λ d v. v) kinds beyond (more ++ kinds) beyond
MovesKinds-more more kinds beyond passed (Bound i) k e = e
MovesKinds-more more kinds beyond passed (Free p) k e = lookup-more more kinds p k e

pub MovesKinds-beyond : (kinds beyond : List Kind) → MovesKinds (λ d v. v) kinds [] kinds beyond
MovesKinds-beyond kinds beyond passed (Bound i) k e = slice_get-beyond passed beyond i k e
MovesKinds-beyond kinds beyond passed (Free p) k e = e

pub moved_kinds : (sort : Sort) (kinds beyond new_kinds new_beyond : List Kind)
    → MovesKinds (λ d v. v) kinds beyond new_kinds new_beyond → (passed : List Kind) (x : Syntax sort)
    → HasKinds sort kinds (passed ++ beyond) x → HasKinds sort new_kinds (passed ++ new_beyond) x
moved_kinds sort kinds beyond new_kinds new_beyond moves passed x k =
    subst (HasKinds sort new_kinds (passed ++ new_beyond)) (ap (λ r. acted sort r (length passed) x) moving-identity ∙ acted-keeping sort (length passed) x)
    (HasKinds-act sort (moving (λ d v. v)) kinds beyond new_kinds new_beyond (KeepsKinds-moving (λ d v. v) kinds beyond new_kinds new_beyond moves) passed x k)

-- what is well formed under no binder is so under any
pub closed_kinded : (sort : Sort) (kinds passed : List Kind) (x : Syntax sort) → HasKinds sort kinds [] x
    → HasKinds sort kinds passed x
closed_kinded sort kinds passed x k =
    moved_kinds sort kinds [] kinds passed (MovesKinds-beyond kinds passed) [] x k

-- putting a well-formed shape
pub KeepsKinds-putting_shape : (kinds : List Kind) (by : Shape) → IsKinded kinds [] by
    → KeepsKinds (putting_shape by) kinds (TypeKind ∷ []) kinds []
KeepsKinds-putting_shape kinds by kinded = record {
  element = λ passed x k. single_kinded kinds (passed ++ []) x (element_stays passed x k);
  shape = shape_put;
  variable = variable_stays;
}
  where
    variable_stays : (passed : List Kind) (v : Var) → IsOfKind kinds (passed ++ TypeKind ∷ []) v TermKind
        → IsOfKind kinds (passed ++ []) v TermKind
    variable_stays passed (Free p) k = k
    variable_stays passed (Bound i) k =
        slice_get-not_last passed TypeKind i TermKind k
        (λ same. let clash : Some TypeKind ≡ Some TermKind = sym (slice_get-last passed TypeKind) ∙ ap (slice_get (passed ++ TypeKind ∷ [])) (sym same) ∙ k in cc)

    element_stays : (passed : List Kind) (x : Elem) → IsKindedElement kinds (passed ++ TypeKind ∷ []) x
        → IsKindedElement kinds (passed ++ []) x
    element_stays passed (Variable v) k = variable_stays passed v k
    element_stays passed Cap k = tt
    element_stays passed (Hole n) k = tt

    shape_put : (passed : List Kind) (v : Var) → IsOfKind kinds (passed ++ TypeKind ∷ []) v TypeKind
        → IsKinded kinds (passed ++ []) (put_shape by (length passed) v)
    shape_put passed (Free p) k = k
    shape_put passed (Bound i) k =
        elim (cases_eq i (length passed)) as (λ _. IsKinded kinds (passed ++ []) (put_shape by (length passed) (Bound i))) [
          | inl same ↦
              subst (IsKinded kinds (passed ++ []))
              (sym (ap (λ j. put_shape by (length passed) (Bound j)) same ∙ put_shape-same by (length passed)))
              (closed_kinded ShapeSort kinds (passed ++ []) by kinded)
          | inr other ↦
              subst (IsKinded kinds (passed ++ [])) (sym (put_shape-other by (length passed) i other)) (slice_get-not_last passed TypeKind i TypeKind k other)
        ]

-- an action on free positions that respects their kinds
pub KeepsKinds-freely : (to : ℕ → ℕ) (shapes : ℕ → Shape) (kinds new_kinds beyond : List Kind)
    → ((p : ℕ) → lookup kinds p ≡ Some TermKind → lookup new_kinds (to p) ≡ Some TermKind)
    → ((p : ℕ) → lookup kinds p ≡ Some TypeKind → IsKinded new_kinds [] (shapes p))
    → KeepsKinds (freely to shapes) kinds beyond new_kinds beyond
KeepsKinds-freely to shapes kinds new_kinds beyond terms types = record {
  element =
      λ passed x k. single_kinded new_kinds (passed ++ beyond) (moved_element (renamed_variable to) x)
      (element_moves passed x k);
  shape = shape_moves;
  variable = variable_moves;
}
  where
    variable_moves : (passed : List Kind) (v : Var) → IsOfKind kinds (passed ++ beyond) v TermKind
        → IsOfKind new_kinds (passed ++ beyond) (renamed_variable to v) TermKind
    variable_moves passed (Bound i) k = k
    variable_moves passed (Free p) k = terms p k

    element_moves : (passed : List Kind) (x : Elem) → IsKindedElement kinds (passed ++ beyond) x
        → IsKindedElement new_kinds (passed ++ beyond) (moved_element (renamed_variable to) x)
    element_moves passed (Variable v) k = variable_moves passed v k
    element_moves passed Cap k = tt
    element_moves passed (Hole n) k = tt

    shape_moves : (passed : List Kind) (v : Var) → IsOfKind kinds (passed ++ beyond) v TypeKind
        → IsKinded new_kinds (passed ++ beyond) (free_shape shapes v)
    shape_moves passed (Bound i) k = k
    shape_moves passed (Free p) k = closed_kinded ShapeSort new_kinds (passed ++ beyond) (shapes p) (types p k)

-- filling with well-formed sets
pub KeepsKinds-filling_in : (filling : ℕ → Set) (kinds beyond : List Kind)
    → ((h : ℕ) → IsKindedSet kinds [] (filling h)) → KeepsKinds (filling_in filling) kinds beyond kinds beyond
KeepsKinds-filling_in filling kinds beyond kinded =
    record { element = element_filled; shape = λ passed v k. k; variable = λ passed v k. k }
  where
    element_filled : (passed : List Kind) (x : Elem) → IsKindedElement kinds (passed ++ beyond) x
        → IsKindedSet kinds (passed ++ beyond) (filled_element filling x)
    element_filled passed (Variable v) k = single_kinded kinds (passed ++ beyond) (Variable v) k
    element_filled passed Cap k = single_kinded kinds (passed ++ beyond) Cap tt
    element_filled passed (Hole n) k = closed_kinded SetSort kinds (passed ++ beyond) (filling n) (kinded n)

-- what follows from kinds: positions are below the length, and each index has its binder
on_elements : (kinds passed : List Kind) (asked : Var → Type 0)
    → ((v : Var) → IsOfKind kinds passed v TermKind → asked v) → (x : Elem) → IsKindedElement kinds passed x
    → IsAskedOf asked x
on_elements kinds passed asked gives (Variable v) k = gives v k
on_elements kinds passed asked gives Cap k = tt
on_elements kinds passed asked gives (Hole n) k = tt

position_below : (kinds passed : List Kind) (kind : Kind) (v : Var) → IsOfKind kinds passed v kind
    → IsPositionBelow (length kinds) v
position_below kinds passed kind (Bound i) k = tt
position_below kinds passed kind (Free p) k = lookup-below kinds p kind k

pub kinds-positions_below : (kinds beyond : List Kind) → KindsGive kinds beyond (positions_below (length kinds))
kinds-positions_below kinds beyond = record {
  element =
      λ passed x k. on_elements kinds (passed ++ beyond) (IsPositionBelow (length kinds))
      (position_below kinds (passed ++ beyond) TermKind) x k;
  shape = λ passed v k. position_below kinds (passed ++ beyond) TypeKind v k;
  variable = λ passed v k. position_below kinds (passed ++ beyond) TermKind v k;
}

has_binder : (kinds passed beyond : List Kind) (kind : Kind) (v : Var) → IsOfKind kinds (passed ++ beyond) v kind
    → HasBinder (length passed + length beyond) v
has_binder kinds passed beyond kind (Free p) k = tt
has_binder kinds passed beyond kind (Bound i) k = let below : i < length (passed ++ beyond) = slice_get-within (passed ++ beyond) i kind k in subst (λ n. i < n) (length-append passed beyond) below

pub kinds-bound_within : (kinds beyond : List Kind) → KindsGive kinds beyond (bound_within (length beyond))
kinds-bound_within kinds beyond = record {
  element =
      λ passed x k. on_elements kinds (passed ++ beyond) (HasBinder (length passed + length beyond))
      (has_binder kinds passed beyond TermKind) x k;
  shape = λ passed v k. has_binder kinds passed beyond TypeKind v k;
  variable = λ passed v k. has_binder kinds passed beyond TermKind v k;
}

pub kinds-under_type_binder : (kinds : List Kind) → KindsGive kinds (TypeKind ∷ []) (under_type_binder (length kinds))
kinds-under_type_binder kinds = record {
  element =
      λ passed x k. on_elements kinds (passed ++ TypeKind ∷ [])
      (λ v. IsPositionBelow (length kinds) v × (v ≢ Bound (length passed))) (of_terms passed) x k;
  shape = λ passed v k. position_below kinds (passed ++ TypeKind ∷ []) TypeKind v k;
  variable = of_terms;
}
  where
    of_terms : (passed : List Kind) (v : Var) → IsOfKind kinds (passed ++ TypeKind ∷ []) v TermKind
        → IsPositionBelow (length kinds) v × (v ≢ Bound (length passed))
    of_terms passed v k = (
      position_below kinds (passed ++ TypeKind ∷ []) TermKind v k,
      λ same. let clash : Some TypeKind ≡ Some TermKind =
          sym (slice_get-last passed TypeKind)
          ∙ subst (λ w. IsOfKind kinds (passed ++ TypeKind ∷ []) w TermKind) same k in cc,
    )

not_outermost : (kinds passed : List Kind) (v : Var) → IsOfKind kinds (passed ++ TermKind ∷ []) v TypeKind
    → v ≢ Bound (length passed)
not_outermost kinds passed v k same =
    let clash : Some TermKind ≡ Some TypeKind =
    sym (slice_get-last passed TermKind) ∙ subst (λ w. IsOfKind kinds (passed ++ TermKind ∷ []) w TypeKind) same k in
    cc

pub kinds-under_term_binder : (kinds : List Kind) → KindsGive kinds (TermKind ∷ []) (under_term_binder (length kinds))
kinds-under_term_binder kinds = record {
  element =
      λ passed x k. on_elements kinds (passed ++ TermKind ∷ []) (IsPositionBelow (length kinds))
      (position_below kinds (passed ++ TermKind ∷ []) TermKind) x k;
  shape = λ passed v k. (position_below kinds (passed ++ TermKind ∷ []) TypeKind v k, not_outermost kinds passed v k);
  variable = λ passed v k. position_below kinds (passed ++ TermKind ∷ []) TermKind v k;
}

pub kinds-no_outermost_type : (kinds : List Kind) → KindsGive kinds (TermKind ∷ []) no_outermost_type
kinds-no_outermost_type kinds =
    record { element = λ passed x k. tt; shape = not_outermost kinds; variable = λ passed v k. tt }
