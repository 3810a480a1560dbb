-- The least filling, found in so many rounds, where the last one adds nothing.
use Rattle.std.proofs.Common.{◌≡◌, ℕ, ◌≤◌, zero, suc, nat_eq, nat_lt, Bool, true, false, ◌&&◌, cond, List, [], ◌∷◌, ◌++◌, Option, Some, None, refl, sym, ap, ◌∙◌, subst, inl, inr}
use Rattle.std.proofs.lemmas.Bool.{and_parts, both_ways, lt-ltb, le-ltb, ltb-true, ltb-false, eqb-true}
use Rattle.std.proofs.lemmas.List.{append_assoc}
use Rattle.cc_capture.specs.declared.var.Var.TheVariants.{Bound, Free}
use Rattle.cc_capture.specs.declared.var.Elem.{Elem}
use Rattle.cc_capture.specs.declared.var.Elem.TheVariants.{Var as Variable, Cap, Hole}
use Rattle.cc_capture.specs.Rising.{is_listed, placed}
use Rattle.cc_capture.specs.Sets.{Set, Member, same_list, contains, empty, insert, union, is_subset}
use Rattle.cc_capture.proofs.Membership.{Member-empty, Member-union, is_subset-Member}
use Rattle.cc_core.specs.Contexts.{Bind, TermEntry, TypeEntry, Context, lookup}
use Rattle.cc_core.specs.Substitution.{single}
use Rattle.cc_core.proofs.Moving.{Member-single, Member-single_itself}
use Rattle.cc_checking.specs.Comparison.{Demand}
use Rattle.cc_checking.specs.Outcomes.{Asked, IsBelow, IsCapless, Placed}
use Rattle.cc_checking.specs.Fillings.{Filling, IsAskedIn, Comes, global, capability, local, forced, IsForced, IsLeast}
use Rattle.cc_checking_laws.proofs.DecidedDemands.{listed_first, listed_later, listed_cases}

-- the elements of both, where both are known
abbrev pub joined_sets : Option Set → Option Set → Option Set
joined_sets None other = None
joined_sets (Some one_set) None = None
joined_sets (Some one_set) (Some other_set) = Some (union one_set other_set)

-- what comes from any of the elements
abbrev pub all_coming : (Elem → Option Set) → List Elem → Option Set
all_coming deeper [] = Some empty
all_coming deeper (e ∷ elements) = joined_sets (deeper e) (all_coming deeper elements)

-- from the declared set of an entry
abbrev entry_coming : (Elem → Option Set) → Option Bind → Option Set
entry_coming deeper (Some (TermEntry shape declared)) = all_coming deeper declared.list
entry_coming deeper (Some (TypeEntry bound)) = Some empty
entry_coming deeper None = Some empty

-- what comes from an element, by at most so many declared sets, where the filling is what is forced
abbrev pub coming : ℕ → ℕ → Filling → Context → Elem → Option Set
coming zero root f g e = None
coming (suc n) root f g (Variable (Free p)) =
    cond (nat_lt p root) (Some (single (Variable (Free p)))) (entry_coming (coming n root f g) (lookup g p))
coming (suc n) root f g (Variable (Bound i)) = Some empty
coming (suc n) root f g Cap = Some (single Cap)
coming (suc n) root f g (Hole h) = Some (f h)

-- the hole that is the whole set
abbrev hole_of : List Elem → Option ℕ
hole_of (Hole h ∷ []) = Some h
hole_of _ = None

-- the set, or the empty one
abbrev or_empty : Option Set → Set
or_empty (Some set) = set
or_empty None = empty

-- what the demand gives the hole
abbrev given : ℕ → ℕ → Filling → Demand → Option ℕ → ℕ → Set
given n root f demand (Some h) hole = cond (nat_eq h hole) (or_empty (all_coming (coming n root f demand.context) demand.left.list)) empty
given n root f demand None hole = empty

abbrev given_by : ℕ → ℕ → Filling → Asked → ℕ → Set
given_by n root f (IsBelow demand) hole = given n root f demand (hole_of demand.right.list) hole
given_by n root f (IsCapless set) hole = empty

abbrev gathered : ℕ → ℕ → Filling → List Placed → ℕ → Set
gathered n root f [] hole = empty
gathered n root f (first ∷ rest) hole = union (given_by n root f first.asked hole) (gathered n root f rest hole)

-- so many rounds from nothing
abbrev pub rounds : ℕ → ℕ → ℕ → List Placed → Filling
rounds zero n root list hole = empty
rounds (suc k) n root list hole = gathered n root (rounds k n root list) list hole

-- whether what the demand gives is there
abbrev within : Option Set → Set → Bool
within (Some set) other = is_subset set other
within None other = false

abbrev demand_closed : ℕ → ℕ → Filling → Demand → Option ℕ → Bool
demand_closed n root f demand (Some h) = within (all_coming (coming n root f demand.context) demand.left.list) (f h)
demand_closed n root f demand None = true

abbrev asked_closed : ℕ → ℕ → Filling → Asked → Bool
asked_closed n root f (IsBelow demand) = demand_closed n root f demand (hole_of demand.right.list)
asked_closed n root f (IsCapless set) = true

-- whether one more round would add nothing
abbrev pub is_closed : ℕ → ℕ → Filling → List Placed → Bool
is_closed n root f [] = true
is_closed n root f (first ∷ rest) = asked_closed n root f first.asked && is_closed n root f rest

-- the first of several elements, and the others
joined_parts : (one_set other_set : Option Set) (s : Set) → joined_sets one_set other_set ≡ Some s
    → (a : Set) × (b : Set) × (one_set ≡ Some a) × (other_set ≡ Some b) × (union a b ≡ s)
joined_parts None other s e = cc
joined_parts (Some a) None s e = cc
joined_parts (Some a) (Some b) s e = (a, b, refl, refl, cc)

-- what comes from one of the elements is among what comes from all
one_of_all : (deeper : Elem → Option Set) (xs : List Elem) (s : Set) → all_coming deeper xs ≡ Some s → (x : Elem) → is_listed x xs ≡ true
    → (a : Set) × (deeper x ≡ Some a) × ((e : Elem) → Member e a → Member e s)
one_of_all deeper [] s all x here = absurd (both_ways false refl here)
one_of_all deeper (y ∷ xs) s all x here =
    let parts = joined_parts (deeper y) (all_coming deeper xs) s all in
    elim (listed_cases x y xs here) as (λ _. (a : Set) × (deeper x ≡ Some a) × ((e : Elem) → Member e a → Member e s)) [
      | inl same ↦ (parts.0, ap deeper same ∙ parts.2, λ e m. subst (Member e) parts.4 ((Member-union e parts.0 parts.1).1 (inl m)))
      | inr there ↦
          let rest = one_of_all deeper xs parts.1 parts.3 x there in
          (rest.0, rest.1, λ e m. subst (Member e) parts.4 ((Member-union e parts.0 parts.1).1 (inr (rest.2 e m))))
    ]

-- and each of those comes from one
all_of_one : (deeper : Elem → Option Set) (xs : List Elem) (s : Set) → all_coming deeper xs ≡ Some s → (e : Elem) → Member e s
    → (x : Elem) × (a : Set) × (is_listed x xs ≡ true) × (deeper x ≡ Some a) × Member e a
all_of_one deeper [] s all e m = let is : empty ≡ s = cc in absurd (Member-empty e (subst (Member e) (sym is) m))
all_of_one deeper (y ∷ xs) s all e m =
    let parts = joined_parts (deeper y) (all_coming deeper xs) s all in
    elim ((Member-union e parts.0 parts.1).0 (subst (Member e) (sym parts.4) m)) as (λ _. (x : Elem) × (a : Set) × (is_listed x (y ∷ xs) ≡ true) × (deeper x ≡ Some a) × Member e a) [
      | inl here ↦ (y, parts.0, listed_first y xs, parts.2, here)
      | inr there ↦
          let rest = all_of_one deeper xs parts.1 parts.3 e there in
          (rest.0, rest.1, listed_later rest.0 y xs rest.2, rest.3, rest.4)
    ]

hole_alone : (right : Set) (h : ℕ) → hole_of right.list ≡ Some h → right ≡ single (Hole h)
unfolding insert empty placed
hole_alone right h e = same_list right (single (Hole h)) (by_list right.list e)
  where
    by_list : (l : List Elem) → hole_of l ≡ Some h → l ≡ Hole h ∷ []
    by_list (Hole n ∷ []) e = let is : n ≡ h = cc in ap (λ k. Hole k ∷ []) is
    by_list [] e = cc
    by_list (Hole n ∷ x ∷ l) e = cc
    by_list (Variable v ∷ l) e = cc
    by_list (Cap ∷ l) e = cc

alone_hole : (h : ℕ) → hole_of (single (Hole h)).list ≡ Some h
unfolding insert empty placed
alone_hole h = refl

module _ (root n : ℕ) (list : List Placed) where
  -- what is asked somewhere is closed
  closed_at : (f : Filling) (l : List Placed) → is_closed n root f l ≡ true → (asked : Asked) → IsAskedIn l asked → asked_closed n root f asked ≡ true
  closed_at f l closed asked (before, p, after, is, same) = subst (λ a. asked_closed n root f a ≡ true) same (inside before (subst (λ x. is_closed n root f x ≡ true) is closed))
    where
      inside : (before : List Placed) → is_closed n root f (before ++ p ∷ after) ≡ true → asked_closed n root f p.asked ≡ true
      inside [] c = (and_parts _ _ c).0
      inside (x ∷ before) c = inside before (and_parts _ _ c).1

  within_parts : (o : Option Set) (s : Set) → within o s ≡ true → (a : Set) × (o ≡ Some a) × ((e : Elem) → Member e a → Member e s)
  within_parts (Some a) s e = (a, refl, (is_subset-Member a s).0 e)
  within_parts None s e = absurd (both_ways false refl e)

  -- where the filling is closed, what comes from an element is what was found for it
  module _ (f : Filling) (closed : is_closed n root f list ≡ true) where
    comes_found : {g : Context} {x e : Elem} → Comes root list g x e → (k : ℕ) (s : Set) → coming k root f g x ≡ Some s → Member e s
    unfolding contains
    comes_found (global {context = g} {position = p} below) zero s c = cc
    comes_found (global {context = g} {position = p} below) (suc k) s c =
        let is : Some (single (Variable (Free p))) ≡ Some s = subst (λ b. cond b (Some (single (Variable (Free p)))) (entry_coming (coming k root f g) (lookup g p)) ≡ Some s) (lt-ltb p root below) c in
        let same : single (Variable (Free p)) ≡ s = cc in
        subst (Member (Variable (Free p))) same (Member-single_itself (Variable (Free p)))
    comes_found capability zero s c = cc
    comes_found capability (suc k) s c = let same : single Cap ≡ s = cc in subst (Member Cap) same (Member-single_itself Cap)
    comes_found (local from there m more) zero s c = cc
    comes_found {e = e} (local {context = g} {position = p} {shape = shape} {declared = d} {from = x} above there m more) (suc k) s c =
        let found : entry_coming (coming k root f g) (lookup g p) ≡ Some s = subst (λ b. cond b (Some (single (Variable (Free p)))) (entry_coming (coming k root f g) (lookup g p)) ≡ Some s) (le-ltb p root above) c in
        let all : all_coming (coming k root f g) d.list ≡ Some s = subst (λ o. entry_coming (coming k root f g) o ≡ Some s) there found in
        let o = one_of_all (coming k root f g) d.list s all x m in
        o.2 e (comes_found more k o.0 o.1)
    comes_found (forced demand asked same m more) zero s c = cc
    comes_found {e = e} (forced {hole = h} {from = x} demand asked same m more) (suc k) s c =
        let is : f h ≡ s = cc in
        let at : hole_of demand.right.list ≡ Some h = subst (λ r. hole_of r.list ≡ Some h) (sym same) (alone_hole h) in
        let ok : demand_closed n root f demand (Some h) ≡ true = subst (λ o. demand_closed n root f demand o ≡ true) at (closed_at f list closed (IsBelow demand) asked) in
        let parts = within_parts (all_coming (coming n root f demand.context) demand.left.list) (f h) ok in
        let o = one_of_all (coming n root f demand.context) demand.left.list parts.0 parts.1 x m in
        subst (Member e) is (parts.2 e (o.2 e (comes_found more n o.0 o.1)))

    forced_found : (h : ℕ) (e : Elem) → IsForced root list h e → Member e (f h)
    forced_found h e c = comes_found c 1 (f h) refl

  -- a hole gives the same in any context
  anywhere_by : {g : Context} {x e : Elem} → Comes root list g x e → (other : Context) (h : ℕ) → x ≡ Hole h → Comes root list other (Hole h) e
  anywhere_by (global below) other h same = cc
  anywhere_by capability other h same = cc
  anywhere_by (local from there m more) other h same = cc
  anywhere_by {e = e} (forced {hole = h'} demand asked is m more) other h same =
      let at : h' ≡ h = cc in subst (λ k. Comes root list other (Hole k) e) at (forced demand asked is m more)

  anywhere : {g : Context} {h : ℕ} {e : Elem} (other : Context) → Comes root list g (Hole h) e → Comes root list other (Hole h) e
  anywhere {h = h} other c = anywhere_by c other h refl

  -- a variable, by its side of the root and its entry
  entry_comes : (g : Context) (p : ℕ) (deeper : Elem → Option Set) → ((x : Elem) (a : Set) → deeper x ≡ Some a → (e : Elem) → Member e a → Comes root list g x e)
      → root ≤ p → (o : Option Bind) → lookup g p ≡ o → (s : Set) → entry_coming deeper o ≡ Some s → (e : Elem) → Member e s → Comes root list g (Variable (Free p)) e
  unfolding contains
  entry_comes g p deeper each above (Some (TermEntry shape d)) there s c e m =
      let o = all_of_one deeper d.list s c e m in local above there o.2 (each o.0 o.1 o.3 e o.4)
  entry_comes g p deeper each above (Some (TypeEntry b)) there s c e m = let is : empty ≡ s = cc in absurd (Member-empty e (subst (Member e) (sym is) m))
  entry_comes g p deeper each above None there s c e m = let is : empty ≡ s = cc in absurd (Member-empty e (subst (Member e) (sym is) m))

  variable_comes : (g : Context) (p : ℕ) (deeper : Elem → Option Set) → ((x : Elem) (a : Set) → deeper x ≡ Some a → (e : Elem) → Member e a → Comes root list g x e)
      → (b : Bool) → nat_lt p root ≡ b → (s : Set) → cond b (Some (single (Variable (Free p)))) (entry_coming deeper (lookup g p)) ≡ Some s → (e : Elem) → Member e s → Comes root list g (Variable (Free p)) e
  variable_comes g p deeper each true below s c e m =
      let same : single (Variable (Free p)) ≡ s = cc in
      subst (Comes root list g (Variable (Free p))) (sym (Member-single e (Variable (Free p)) (subst (Member e) (sym same) m))) (global (ltb-true p root below))
  variable_comes g p deeper each false above s c e m = entry_comes g p deeper each (ltb-false p root above) (lookup g p) refl s c e m

  -- where the filling has forced elements alone, so has what is found for an element
  found_comes : (f : Filling) → ((h : ℕ) (e : Elem) → Member e (f h) → IsForced root list h e) → (k : ℕ) (g : Context) (x : Elem) (s : Set) → coming k root f g x ≡ Some s
      → (e : Elem) → Member e s → Comes root list g x e
  unfolding contains
  found_comes f right zero g x s c e m = cc
  found_comes f right (suc k) g (Variable (Free p)) s c e m =
      variable_comes g p (coming k root f g) (λ x a found e m. found_comes f right k g x a found e m) (nat_lt p root) refl s c e m
  found_comes f right (suc k) g (Variable (Bound i)) s c e m = let is : empty ≡ s = cc in absurd (Member-empty e (subst (Member e) (sym is) m))
  found_comes f right (suc k) g Cap s c e m =
      let same : single Cap ≡ s = cc in
      subst (Comes root list g Cap) (sym (Member-single e Cap (subst (Member e) (sym same) m))) capability
  found_comes f right (suc k) g (Hole h) s c e m = let is : f h ≡ s = cc in anywhere g (right h e (subst (Member e) (sym is) m))

  -- what a round gives a hole is forced into it
  given_forced : (f : Filling) → ((h : ℕ) (e : Elem) → Member e (f h) → IsForced root list h e) → (demand : Demand) → IsAskedIn list (IsBelow demand) → (o : Option ℕ) → hole_of demand.right.list ≡ o
      → (hole : ℕ) (e : Elem) → Member e (given n root f demand o hole) → IsForced root list hole e
  unfolding contains
  given_forced f right demand asked None is hole e m = absurd (Member-empty e m)
  given_forced f right demand asked (Some h) is hole e m = by_hole (nat_eq h hole) refl m
    where
      by_hole : (b : Bool) → nat_eq h hole ≡ b → Member e (cond b (or_empty (all_coming (coming n root f demand.context) demand.left.list)) empty) → IsForced root list hole e
      by_hole false other m = absurd (Member-empty e m)
      by_hole true same m = by_found (all_coming (coming n root f demand.context) demand.left.list) refl m
        where
          by_found : (o : Option Set) → all_coming (coming n root f demand.context) demand.left.list ≡ o → Member e (or_empty o) → IsForced root list hole e
          by_found None found m = absurd (Member-empty e m)
          by_found (Some s) found m =
              let o = all_of_one (coming n root f demand.context) demand.left.list s found e m in
              let at : h ≡ hole = eqb-true h hole same in
              forced demand asked (hole_alone demand.right hole (is ∙ ap (λ k. Some k) at)) o.2
              (found_comes f right n demand.context o.0 o.1 o.3 e o.4)

  asked_forced : (f : Filling) → ((h : ℕ) (e : Elem) → Member e (f h) → IsForced root list h e) → (asked : Asked) → IsAskedIn list asked
      → (hole : ℕ) (e : Elem) → Member e (given_by n root f asked hole) → IsForced root list hole e
  asked_forced f right (IsBelow demand) asked hole e m = given_forced f right demand asked (hole_of demand.right.list) refl hole e m
  asked_forced f right (IsCapless set) asked hole e m = absurd (Member-empty e m)

  gathered_forced : (f : Filling) → ((h : ℕ) (e : Elem) → Member e (f h) → IsForced root list h e) → (before l : List Placed) → list ≡ before ++ l
      → (hole : ℕ) (e : Elem) → Member e (gathered n root f l hole) → IsForced root list hole e
  gathered_forced f right before [] is hole e m = absurd (Member-empty e m)
  gathered_forced f right before (p ∷ l) is hole e m =
      elim ((Member-union e (given_by n root f p.asked hole) (gathered n root f l hole)).0 m) as (λ _. IsForced root list hole e) [
        | inl here ↦ asked_forced f right p.asked (before, p, l, is, refl) hole e here
        | inr there ↦ gathered_forced f right (before ++ p ∷ []) l (is ∙ sym (append_assoc before (p ∷ []) l)) hole e there
      ]

  pub rounds_forced : (k : ℕ) (h : ℕ) (e : Elem) → Member e (rounds k n root list h) → IsForced root list h e
  rounds_forced zero h e m = absurd (Member-empty e m)
  rounds_forced (suc k) h e m = gathered_forced (rounds k n root list) (rounds_forced k) [] list refl h e m

-- so where one more round adds nothing, the rounds have come to the least filling
pub rounds_are_least : (root n k : ℕ) (list : List Placed) → is_closed n root (rounds k n root list) list ≡ true → IsLeast root list (rounds k n root list)
rounds_are_least root n k list closed hole e = (rounds_forced root n list k hole e, forced_found root n list (rounds k n root list) closed hole e)
