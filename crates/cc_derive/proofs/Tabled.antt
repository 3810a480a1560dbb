-- How the variables of a context are below a set, by what is declared for them.
use Rattle.std.proofs.Common.{◌≡◌, ℕ, ◌<◌, ◌≤◌, Bool, true, false, cond, List, [], ◌∷◌, length, Option, Some, None, refl, sym, ap, ◌∙◌, subst, arith}
use Rattle.std.specs.Prelude.{nat_eq, nat_lt}
use Rattle.std.specs.Option.{option_and_then}
use Rattle.std.proofs.lemmas.Bool.{cond-true, cond-false, ne_eqb, eqb-true, eq-eqb, or_left, or_right, le-ltb, ltb-true, ltb-false}
use Rattle.cc_capture.specs.declared.var.Var.TheVariants.{Bound, Free}
use Rattle.cc_capture.specs.declared.var.Elem.{Elem}
use Rattle.cc_capture.specs.declared.var.Elem.TheVariants.{Var as Variable, Cap, Hole}
use Rattle.cc_capture.specs.Elements.{same_element}
use Rattle.cc_capture.specs.ElementOrder.{same_element-itself}
use Rattle.cc_capture.specs.Rising.{is_listed}
use Rattle.cc_capture.specs.Sets.{Set, contains}
use Rattle.cc_core.specs.Captured.{variable_set}
use Rattle.cc_core.specs.Contexts.{Bind, TermEntry, TypeEntry, Context, lookup}
use Rattle.cc_core.specs.Derivations.{ByVariable, BySet, SetBelow, Derivation, Premises, Node, Premise, one}
use Rattle.cc_core.proofs.Lookups.{lookup-below}
use Rattle.cc_checking.specs.CanonicalDerivations.{premises_for, member_derived, elements_derived, derived_at, element_derived, set_derived}
use Rattle.cc_derive.specs.Tables.{reached_derived, declared_in, declared_derived}

-- a member is below as a member
pub contained : (g : Context) (right : Set) (e : Elem) → contains e right ≡ true
    → element_derived g right e ≡ member_derived right e
contained [] right e m = refl
contained (b ∷ g) right e m =
    cond-true (contains e right) (member_derived right e) (derived_at (element_derived g right) b (length g) right e) m

-- what is no variable of the context is below as a member
if_member : (b : Bool) (d e : Derivation) → e ≡ d → cond b d e ≡ d
if_member true d e h = refl
if_member false d e h = h

past : (b : Bind) (deeper : Elem → Derivation) (n q : ℕ) (right : Set) → nat_eq q n ≡ false
    → derived_at deeper b n right (Variable (Free q)) ≡ deeper (Variable (Free q))
past (TermEntry s d) deeper n q right other =
    cond-false (nat_eq q n)
    (Node ByVariable (one (elements_derived deeper d right)) (SetBelow (variable_set (Free q)) right))
    (deeper (Variable (Free q))) other
past (TypeEntry s) deeper n q right other = refl

beyond : (g : Context) (right : Set) (q : ℕ) → length g ≤ q
    → element_derived g right (Variable (Free q)) ≡ member_derived right (Variable (Free q))
beyond [] right q h = refl
beyond (b ∷ g) right q h =
    if_member (contains (Variable (Free q)) right) _ _
    (past b (element_derived g right) (length g) q right (ne_eqb q (length g) (λ e. omega arith))
    ∙ beyond g right q (omega arith))

bound : (g : Context) (right : Set) (i : ℕ)
    → element_derived g right (Variable (Bound i)) ≡ member_derived right (Variable (Bound i))
bound [] right i = refl
bound (TermEntry s d ∷ g) right i = if_member (contains (Variable (Bound i)) right) _ _ (bound g right i)
bound (TypeEntry s ∷ g) right i = if_member (contains (Variable (Bound i)) right) _ _ (bound g right i)

capability : (g : Context) (right : Set) → element_derived g right Cap ≡ member_derived right Cap
capability [] right = refl
capability (TermEntry s d ∷ g) right = if_member (contains Cap right) _ _ (capability g right)
capability (TypeEntry s ∷ g) right = if_member (contains Cap right) _ _ (capability g right)

hole : (g : Context) (right : Set) (n : ℕ) → element_derived g right (Hole n) ≡ member_derived right (Hole n)
hole [] right n = refl
hole (TermEntry s d ∷ g) right n = if_member (contains (Hole n) right) _ _ (hole g right n)
hole (TypeEntry s ∷ g) right n = if_member (contains (Hole n) right) _ _ (hole g right n)

-- an older variable is below as it is without the newest entry
older : (b : Bind) (g : Context) (right : Set) (q : ℕ) → q < length g
    → element_derived (b ∷ g) right (Variable (Free q)) ≡ element_derived g right (Variable (Free q))
older b g right q h =
    let e : Elem = Variable (Free q) in
    elim (contains e right) as (λ t. contains e right ≡ t → cond t (member_derived right e) (derived_at (element_derived g right) b (length g) right e) ≡ element_derived g right e) [
      | true ↦ λ m. sym (contained g right e m)
      | false ↦ λ _. past b (element_derived g right) (length g) q right (ne_eqb q (length g) (λ x. omega arith))
    ] refl

-- where the variables of the first positions are all that there are
below_known : (g : Context) (right : Set) (known q : ℕ) → length g ≤ known
    → reached_derived known g right (Variable (Free q)) ≡ element_derived g right (Variable (Free q))
below_known g right known q h =
    elim (nat_lt q known) as (λ t. nat_lt q known ≡ t → cond t (element_derived g right (Variable (Free q))) (member_derived right (Variable (Free q))) ≡ element_derived g right (Variable (Free q))) [
      | true ↦ λ _. refl
      | false ↦ λ no. sym (beyond g right q (omega (arith, ltb-false q known no)))
    ] refl

pub reached_known : (g : Context) (right : Set) (known : ℕ) → length g ≤ known → (e : Elem)
    → reached_derived known g right e ≡ element_derived g right e
reached_known g right known h (Variable (Free q)) = below_known g right known q h
reached_known g right known h (Variable (Bound i)) = sym (bound g right i)
reached_known g right known h Cap = sym (capability g right)
reached_known g right known h (Hole n) = sym (hole g right n)

-- one entry more
reached_older : (b : Bind) (g : Context) (right : Set) (known : ℕ) → known ≤ length g → (e : Elem)
    → reached_derived known (b ∷ g) right e ≡ reached_derived known g right e
reached_older b g right known h (Variable (Free q)) =
    elim (nat_lt q known) as (λ t. nat_lt q known ≡ t → cond t (element_derived (b ∷ g) right (Variable (Free q))) (member_derived right (Variable (Free q))) ≡ cond t (element_derived g right (Variable (Free q))) (member_derived right (Variable (Free q)))) [
      | true ↦ λ yes. older b g right q (omega (arith, ltb-true q known yes))
      | false ↦ λ _. refl
    ] refl
reached_older b g right known h (Variable (Bound i)) = refl
reached_older b g right known h Cap = refl
reached_older b g right known h (Hole n) = refl

-- all elements
pub elements_alike : (first other : Elem → Derivation) → ((e : Elem) → first e ≡ other e) → (left right : Set)
    → elements_derived first left right ≡ elements_derived other left right
elements_alike first other same left right = λ i. elements_derived (λ e. same e i) left right

premises_alike : (first other : Elem → Derivation) (xs : List Elem)
    → ((e : Elem) → is_listed e xs ≡ true → first e ≡ other e) → premises_for first xs ≡ premises_for other xs
premises_alike first other [] same = refl
premises_alike first other (x ∷ xs) same =
    let here = same x (or_left (same_element x x) (is_listed x xs) (same_element-itself x)) in
    let rest = premises_alike first other xs (λ e m. same e (or_right (same_element e x) (is_listed e xs) m)) in
    λ i. Premise (here i) (rest i)

below_none : (q : ℕ) → nat_lt q 0 ≡ false
below_none q = le-ltb q 0 (omega arith)

-- a set whose elements are all members
pub members_derived : (g : Context) (left right : Set) → ((e : Elem) → is_listed e left.list ≡ true → contains e right ≡ true)
    → elements_derived (reached_derived 0 g right) left right ≡ set_derived g left right
members_derived g left right all =
    ap (λ (p : Premises). Node BySet p (SetBelow left right))
    (premises_alike (reached_derived 0 g right) (element_derived g right) left.list
    (λ e m. member_reached e ∙ sym (contained g right e (all e m))))
  where
    member_reached : (e : Elem) → reached_derived 0 g right e ≡ member_derived right e
    member_reached (Variable (Free q)) =
        cond-false (nat_lt q 0) (element_derived g right (Variable (Free q))) (member_derived right (Variable (Free q))) (below_none q)
    member_reached (Variable (Bound i)) = refl
    member_reached Cap = refl
    member_reached (Hole n) = refl

-- what is declared for a position
abbrev pub declared_at : Context → ℕ → Option Set
declared_at g p = option_and_then declared_in (lookup g p)

declared_older : (b : Bind) (g : Context) (right : Set) (p : ℕ) (found : Option Bind) → lookup g p ≡ found
    → declared_derived (b ∷ g) right p (option_and_then declared_in found)
    ≡ declared_derived g right p (option_and_then declared_in found)
declared_older b g right p (Some (TermEntry s d)) there =
    ap (λ (x : Derivation). Node ByVariable (one x) (SetBelow (variable_set (Free p)) right))
    (elements_alike (reached_derived p (b ∷ g) right) (reached_derived p g right)
    (reached_older b g right p (omega (arith, lookup-below g p (TermEntry s d) there))) d right)
declared_older b g right p (Some (TypeEntry s)) there = refl
declared_older b g right p None there = refl

newest : (b : Bind) (g : Context) (right : Set)
    → derived_at (element_derived g right) b (length g) right (Variable (Free (length g)))
    ≡ declared_derived (b ∷ g) right (length g) (declared_in b)
newest (TermEntry s d) g right =
    let e : Elem = Variable (Free (length g)) in
    cond-true (nat_eq (length g) (length g)) _ _ (eq-eqb (length g) (length g) refl)
    ∙ ap (λ (x : Derivation). Node ByVariable (one x) (SetBelow (variable_set (Free (length g))) right))
    (elements_alike (element_derived g right) (reached_derived (length g) (TermEntry s d ∷ g) right)
    (λ x. sym (reached_older (TermEntry s d) g right (length g) (omega arith) x ∙ reached_known g right (length g) (omega arith) x)) d right)
newest (TypeEntry s) g right = beyond g right (length g) (omega arith)

-- a variable that is no member is below by what is declared for it
pub by_declared : (g : Context) (right : Set) (p : ℕ) → contains (Variable (Free p)) right ≡ false
    → element_derived g right (Variable (Free p)) ≡ declared_derived g right p (declared_at g p)
by_declared [] right p absent = refl
by_declared (b ∷ g) right p absent =
    let e : Elem = Variable (Free p) in
    cond-false (contains e right) (member_derived right e) (derived_at (element_derived g right) b (length g) right e) absent
    ∙ elim (nat_eq p (length g)) as (λ t. nat_eq p (length g) ≡ t → derived_at (element_derived g right) b (length g) right e ≡ declared_derived (b ∷ g) right p (option_and_then declared_in (cond t (Some b) (lookup g p)))) [
      | true ↦ λ same.
          let is = eqb-true p (length g) same in
          subst (λ (q : ℕ). derived_at (element_derived g right) b (length g) right (Variable (Free q)) ≡ declared_derived (b ∷ g) right q (declared_in b)) (sym is) (newest b g right)
      | false ↦ λ other.
          past b (element_derived g right) (length g) p right other ∙ by_declared g right p absent
          ∙ sym (declared_older b g right p (lookup g p) refl)
    ] refl
