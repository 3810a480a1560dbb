-- The canonical derivation of a set below another is valid.
use Rattle.std.proofs.Common.{◌≡◌, ℕ, true, false, cond, List, [], ◌∷◌, length, Some, refl, sym, ap, ◌∙◌, inl, inr}
use Rattle.std.specs.Prelude.{nat_eq}
use Rattle.std.proofs.lemmas.Bool.{eqb-true, eq-eqb, or_left, or_right}
use Rattle.cc_capture.specs.declared.var.Var.TheVariants.{Bound, Free}
use Rattle.cc_capture.specs.declared.var.Elem.{Elem}
use Rattle.cc_capture.specs.declared.var.Elem.TheVariants.{Var as Variable, Cap, Hole}
use Rattle.cc_capture.specs.Elements.{same_element}
use Rattle.cc_capture.specs.ElementOrder.{same_element-itself}
use Rattle.cc_capture.specs.Rising.{is_listed}
use Rattle.cc_capture.specs.Sets.{Set, Member, contains}
use Rattle.cc_core.specs.Substitution.{single}
use Rattle.cc_core.specs.Contexts.{Bind, TermEntry, TypeEntry, Context, lookup}
use Rattle.cc_core.specs.WellFormed.{TermKind, TypeKind, kinds_of, kind_of, IsWellFormedContext, IsWellFormedSet}
use Rattle.cc_core.specs.Captured.{variable_set}
use Rattle.cc_core.specs.Subcapturing.{Subcaptures, SubcapturesSet}
use Rattle.cc_core.specs.Derivations.{ByVariable, SetBelow, Node, one, Derivation, IsValidComparison, AreBelow, ConcludesSets}
use Rattle.cc_core.proofs.KindFacts.{IsKindedElement, IsKindedSet-from}
use Rattle.cc_core.proofs.Lookups.{lookup-newest, lookup-older, lookup-cases, length_map}
use Rattle.cc_core.proofs.SubcapturingContexts.{IsKindedContext, IsKindedContext-from}
use Rattle.cc_core.proofs.SubcapturingLemmas.{subcaptures_variable, subcaptures_other}
use Rattle.cc_checking.specs.CanonicalDerivations.{premises_for, member_derived, elements_derived, derived_at, element_derived, set_derived}

-- the derivation is valid, and concludes that the element is below the set
abbrev Shows : Context → Derivation → Elem → Set → Type 0
Shows g d e right = IsValidComparison g d × ConcludesSets d (single e) right

listed_member : (e : Elem) (c : Set) → is_listed e c.list ≡ true → Member e c
unfolding contains
listed_member e c m = m

premises_valid : (g : Context) (right : Set) (derive : Elem → Derivation) (xs : List Elem) → ((e : Elem) → is_listed e xs ≡ true → Shows g (derive e) e right)
    → AreBelow g xs right (premises_for derive xs)
premises_valid g right derive [] each = tt
premises_valid g right derive (x ∷ xs) each =
    let here = each x (or_left (same_element x x) (is_listed x xs) (same_element-itself x)) in
    (here.0, here.1, premises_valid g right derive xs (λ e m. each e (or_right (same_element e x) (is_listed e xs) m)))

member_shows : (g : Context) (right : Set) (e : Elem) → Member e right → Shows g (member_derived right e) e right
member_shows g right e m = ((e, right, m, refl), refl)

-- an element that is below without an entry is a member
without_entry : (g : Context) (e : Elem) (right : Set) → IsKindedElement (kinds_of []) [] e → Subcaptures g e right → Member e right
without_entry g (Variable (Free p)) right k below = cc
without_entry g (Variable (Bound i)) right k below = cc
without_entry g Cap right k below = subcaptures_other g Cap right (λ p s d e. cc) below
without_entry g (Hole n) right k below = subcaptures_other g (Hole n) right (λ p s d e. cc) below

older_kind : (b : Bind) (older : Context) (p : ℕ) → IsKindedElement (kinds_of (b ∷ older)) [] (Variable (Free p)) → nat_eq p (length older) ≡ false → IsKindedElement (kinds_of older) [] (Variable (Free p))
older_kind b older p k absent =
    elim (lookup-cases (kind_of b) (kinds_of older) p TermKind k) as (λ _. lookup (kinds_of older) p ≡ Some TermKind) [
      | inl here ↦ let clash : true ≡ false = sym (eq-eqb p (length older) (here.0 ∙ length_map kind_of older)) ∙ absent in cc
      | inr old ↦ old
    ]

-- one entry, where what is asked of the older ones is given
entry_valid : (b : Bind) (older g : Context) → ((p : ℕ) (x : Bind) → lookup (b ∷ older) p ≡ Some x → lookup g p ≡ Some x) → IsKindedContext (b ∷ older) → (right : Set)
    → ((x : Elem) → IsKindedElement (kinds_of older) [] x → Subcaptures g x right → Shows g (element_derived older right x) x right)
    → (e : Elem) → IsKindedElement (kinds_of (b ∷ older)) [] e → contains e right ≡ false → Subcaptures g e right
    → Shows g (derived_at (element_derived older right) b (length older) right e) e right
entry_valid (TermEntry s d) older g more formed right deeper (Variable (Free p)) k absent below =
    elim (nat_eq p (length older)) as (λ t. nat_eq p (length older) ≡ t → Shows g (cond t (Node ByVariable (one (elements_derived (element_derived older right) d right)) (SetBelow (variable_set (Free p)) right)) (element_derived older right (Variable (Free p)))) (Variable (Free p)) right) [
      | true ↦ λ same.
          let here : lookup g p ≡ Some (TermEntry s d) = ap (lookup g) (eqb-true p (length older) same) ∙ more (length older) (TermEntry s d) (lookup-newest (TermEntry s d) older) in
          let each : SubcapturesSet g d right = elim ((subcaptures_variable g p s d right here).0 below) as (λ _. SubcapturesSet g d right) [
            | inl m ↦ let clash : true ≡ false = sym m ∙ absent in cc
            | inr each ↦ each
          ] in (
            (
              p,
              s,
              d,
              right,
              here,
              (d, right, premises_valid g right (element_derived older right) d.list (λ x m. deeper x (formed.0.1 x (listed_member x d m)) (each x (listed_member x d m))), refl),
              refl,
              refl,
            ),
            refl,
          )
      | false ↦ λ other. deeper (Variable (Free p)) (older_kind (TermEntry s d) older p k other) below
    ] refl
entry_valid (TypeEntry x) older g more formed right deeper (Variable (Free p)) k absent below =
    elim (lookup-cases TypeKind (kinds_of older) p TermKind k) as (λ _. Shows g (element_derived older right (Variable (Free p))) (Variable (Free p)) right) [
      | inl here ↦ let clash = here.1 in cc
      | inr old ↦ deeper (Variable (Free p)) old below
    ]
entry_valid b older g more formed right deeper (Variable (Bound i)) k absent below = cc
entry_valid (TermEntry s d) older g more formed right deeper Cap k absent below = deeper Cap tt below
entry_valid (TypeEntry x) older g more formed right deeper Cap k absent below = deeper Cap tt below
entry_valid (TermEntry s d) older g more formed right deeper (Hole n) k absent below = deeper (Hole n) tt below
entry_valid (TypeEntry x) older g more formed right deeper (Hole n) k absent below = deeper (Hole n) tt below

element_valid : (older g : Context) → ((p : ℕ) (b : Bind) → lookup older p ≡ Some b → lookup g p ≡ Some b) → IsKindedContext older → (right : Set) (e : Elem) → IsKindedElement (kinds_of older) [] e
    → Subcaptures g e right → Shows g (element_derived older right e) e right
element_valid [] g more formed right e k below = member_shows g right e (without_entry g e right k below)
element_valid (b ∷ older) g more formed right e k below =
    elim (contains e right) as (λ t. contains e right ≡ t → Shows g (cond t (member_derived right e) (derived_at (element_derived older right) b (length older) right e)) e right) [
      | true ↦ λ m. member_shows g right e m
      | false ↦ λ absent.
          entry_valid b older g more formed right (λ x kx bx. element_valid older g (λ p y h. more p y (lookup-older b older p y h)) formed.1 right x kx bx) e k absent below
    ] refl

pub set_derived_valid : (g : Context) (left right : Set) → IsWellFormedContext g → IsWellFormedSet g left → SubcapturesSet g left right
    → IsValidComparison g (set_derived g left right) × ConcludesSets (set_derived g left right) left right
set_derived_valid g left right formed known below = (
  (
    left,
    right,
    premises_valid g right (element_derived g right) left.list
        (λ x m. element_valid g g (λ p b h. h) (IsKindedContext-from g formed) right x (IsKindedSet-from (kinds_of g) [] left known x (listed_member x left m)) (below x (listed_member x left m))),
    refl,
  ),
  refl,
)
