-- How the ends of a demand are found: variables wait, and give way to their declared sets from the newest one on.
use Rattle.std.proofs.Common.{◌≡◌, ◌⊎◌, ℕ, zero, suc, ◌<◌, ◌≤◌, ◌-◌, Bool, true, false, not, cond, List, [], ◌∷◌, ◌++◌}
use Rattle.std.proofs.Common.{map, length, Option, Some, None, refl, sym, ap, ◌∙◌, subst, inl, inr, arith}
use Rattle.std.specs.Prelude.{slice_get, MatchOption}
use Rattle.std.proofs.lemmas.Bool.{cases_eq, both_ways, or_cases, not-true, not_from_false}
use Rattle.std.proofs.lemmas.List.{map-id}
use Rattle.std.specs.declared.cmp.Ordering.{Ordering}
use Rattle.std.specs.declared.cmp.Ordering.TheVariants.{Less, Equal, Greater}
use Rattle.std.specs.Ordering.{nat_cmp, MatchOrdering, ordering_then}
use Rattle.std.proofs.lemmas.Cmp.{ranked}
use Rattle.cc_capture.specs.declared.var.Var.{Var}
use Rattle.cc_capture.specs.declared.var.Var.TheVariants.{Bound, Free}
use Rattle.cc_capture.specs.declared.var.Elem.{Elem}
use Rattle.cc_capture.specs.declared.var.Elem.TheVariants.{Var as Variable, Cap, Hole}
use Rattle.cc_capture.specs.Elements.{element_order, same_element}
use Rattle.cc_capture.specs.ElementOrder.{same_element-true}
use Rattle.cc_capture.specs.Rising.{IsBelow, IsBelowAll, IsRising, is_listed}
use Rattle.cc_capture.specs.Sets.{Set, Member, contains, empty, insert, union, retain, remove, same_list}
use Rattle.cc_capture.proofs.Membership.{same_members, Member-empty, Member-insert, Member-retain, Member-remove}
use Rattle.cc_capture.proofs.Membership.{Member-union}
use Rattle.cc_capture.proofs.Walks.{Member-at}
use Rattle.cc_core.specs.Shapes.{Shape}
use Rattle.cc_core.specs.Contexts.{Bind, TermEntry, TypeEntry, Context, lookup}
use Rattle.cc_core.specs.WellFormed.{TermKind, kinds_of, IsWellFormedContext, IsWellFormedSet}
use Rattle.cc_core.proofs.KindFacts.{IsKindedSet, IsKindedSet-from}
use Rattle.cc_core.proofs.SubcapturingContexts.{IsKindedContext-from, entry_kinded}
use Rattle.cc_sets.proofs.Markings.{listed_last, listed_before, listed_itself}
use Rattle.cc_sets.proofs.SubcapturingSearch.{IsLower, set_lower, declared_lower}
use Rattle.cc_known.specs.Keeping.{is_end, beyond, declared_of, given_way, all_given_way, ends_beyond}
use Rattle.cc_known.specs.EndedDemands.{PutsBeyond, IsPositionBelow, IsLastBelow}

some_parts : {x y : Elem} → Some x ≡ Some y → x ≡ y
some_parts e = cc

free_parts : {p q : ℕ} → Variable (Free p) ≡ Variable (Free q) → p ≡ q
free_parts e = cc

-- the members of a set that another has not
pub beyond_both : (right set : Set) (e : Elem) → Member e (beyond right set) → Member e set × (contains e right ≡ false)
beyond_both right set e m =
    let k = (Member-retain (λ x. not (contains x right)) e set).0 m in (k.1, not-true (contains e right) k.0)

pub both_beyond : (right set : Set) (e : Elem) → Member e set → contains e right ≡ false → Member e (beyond right set)
both_beyond right set e m out =
    (Member-retain (λ x. not (contains x right)) e set).1 (not_from_false (contains e right) out, m)

-- an element is a member or none
pub member_cases : (e : Elem) (s : Set) → Member e s ⊎ (contains e s ≡ false)
member_cases e s = by_test (contains e s) refl
  where
    by_test : (b : Bool) → contains e s ≡ b → Member e s ⊎ (contains e s ≡ false)
    by_test true is = inl is
    by_test false is = inr is

-- putting elements of one fact, and then those of another
pub puts_then : (right : Set) (A B C : Elem → Type 0) (w n w' n' w'' n'' : Set)
    → ((e : Elem) → C e → A e ⊎ B e) → ((e : Elem) → A e → C e) → ((e : Elem) → B e → C e)
    → PutsBeyond right A w n w' n' → PutsBeyond right B w' n' w'' n'' → PutsBeyond right C w n w'' n''
puts_then right A B C w n w' n' w'' n'' split left other one two = record {
  kept_waiting = λ e m. two.kept_waiting e (one.kept_waiting e m);
  kept_ends = λ e m. two.kept_ends e (one.kept_ends e m);
  waits = λ e m.
      elim (two.waits e m) as (λ _. Member e w ⊎ (C e × (contains e right ≡ false) × (is_end e ≡ false))) [
        | inl was ↦
            elim (one.waits e was) as (λ _. Member e w ⊎ (C e × (contains e right ≡ false) × (is_end e ≡ false))) [
              | inl first ↦ inl first
              | inr (fact, out, is) ↦ inr (left e fact, out, is)
            ]
        | inr (fact, out, is) ↦ inr (other e fact, out, is)
      ];
  ended = λ e m.
      elim (two.ended e m) as (λ _. Member e n ⊎ (C e × (contains e right ≡ false) × (is_end e ≡ true))) [
        | inl was ↦
            elim (one.ended e was) as (λ _. Member e n ⊎ (C e × (contains e right ≡ false) × (is_end e ≡ true))) [
              | inl first ↦ inl first
              | inr (fact, out, is) ↦ inr (left e fact, out, is)
            ]
        | inr (fact, out, is) ↦ inr (other e fact, out, is)
      ];
  all = λ e fact out.
      elim (split e fact) as (λ _. Member e w'' ⊎ Member e n'') [
        | inl a ↦
            elim (one.all e a out) as (λ _. Member e w'' ⊎ Member e n'') [
              | inl waits ↦ inl (two.kept_waiting e waits)
              | inr ended ↦ inr (two.kept_ends e ended)
            ]
        | inr b ↦ two.all e b out
      ];
}

-- facts that hold of the same elements
pub puts_as : (right : Set) (A B : Elem → Type 0) (w n w' n' : Set) → ((e : Elem) → A e → B e) → ((e : Elem) → B e → A e)
    → PutsBeyond right A w n w' n' → PutsBeyond right B w n w' n'
puts_as right A B w n w' n' to from one = record {
  kept_waiting = one.kept_waiting;
  kept_ends = one.kept_ends;
  waits = λ e m.
      elim (one.waits e m) as (λ _. Member e w ⊎ (B e × (contains e right ≡ false) × (is_end e ≡ false))) [
        | inl was ↦ inl was
        | inr (fact, out, is) ↦ inr (to e fact, out, is)
      ];
  ended = λ e m.
      elim (one.ended e m) as (λ _. Member e n ⊎ (B e × (contains e right ≡ false) × (is_end e ≡ true))) [
        | inl was ↦ inl was
        | inr (fact, out, is) ↦ inr (to e fact, out, is)
      ];
  all = λ e fact out. one.all e (from e fact) out;
}

-- nothing was to be put
pub puts_none : (right : Set) (A : Elem → Type 0) (w n : Set) → ((e : Elem) → A e → contains e right ≡ false → ⊥)
    → PutsBeyond right A w n w n
puts_none right A w n none = record {
  kept_waiting = λ e m. m;
  kept_ends = λ e m. m;
  waits = λ e m. inl m;
  ended = λ e m. inl m;
  all = λ e fact out. absurd (none e fact out);
}

pub puts_member : (right : Set) (x : Elem) (w n : Set) → contains x right ≡ true → PutsBeyond right (λ e. e ≡ x) w n w n
puts_member right x w n m =
    puts_none right (λ e. e ≡ x) w n (λ e same out. both_ways (contains e right) out (ap (λ y. contains y right) same ∙ m))

pub puts_waiting : (right : Set) (x : Elem) (w n w' : Set) → contains x right ≡ false → is_end x ≡ false → w' ≡ insert x w
    → PutsBeyond right (λ e. e ≡ x) w n w' n
puts_waiting right x w n w' out is put =
    subst (λ v. PutsBeyond right (λ e. e ≡ x) w n v n) (sym put) record {
      kept_waiting = λ e m. (Member-insert e x w).1 (inr m);
      kept_ends = λ e m. m;
      waits = λ e m.
          elim ((Member-insert e x w).0 m)
          as (λ _. Member e w ⊎ ((e ≡ x) × (contains e right ≡ false) × (is_end e ≡ false))) [
            | inl same ↦ inr (same, ap (λ y. contains y right) same ∙ out, ap is_end same ∙ is)
            | inr was ↦ inl was
          ];
      ended = λ e m. inl m;
      all = λ e same o. inl ((Member-insert e x w).1 (inl same));
    }

pub puts_ended : (right : Set) (x : Elem) (w n n' : Set) → contains x right ≡ false → is_end x ≡ true → n' ≡ insert x n
    → PutsBeyond right (λ e. e ≡ x) w n w n'
puts_ended right x w n n' out is put =
    subst (λ v. PutsBeyond right (λ e. e ≡ x) w n w v) (sym put) record {
      kept_waiting = λ e m. m;
      kept_ends = λ e m. (Member-insert e x n).1 (inr m);
      waits = λ e m. inl m;
      ended = λ e m.
          elim ((Member-insert e x n).0 m)
          as (λ _. Member e n ⊎ ((e ≡ x) × (contains e right ≡ false) × (is_end e ≡ true))) [
            | inl same ↦ inr (same, ap (λ y. contains y right) same ∙ out, ap is_end same ∙ is)
            | inr was ↦ inl was
          ];
      all = λ e same o. inr ((Member-insert e x n).1 (inl same));
    }

-- the elements of a list
abbrev pub IsListed : List Elem → Elem → Type 0
IsListed xs e = is_listed e xs ≡ true

pub puts_begin : (right w n : Set) → PutsBeyond right (IsListed []) w n w n
puts_begin right w n = puts_none right (IsListed []) w n (λ e fact out. let h : false ≡ true = fact in cc)

pub puts_more : (right : Set) (xs : List Elem) (x : Elem) (w n w' n' w'' n'' : Set)
    → PutsBeyond right (IsListed xs) w n w' n' → PutsBeyond right (λ e. e ≡ x) w' n' w'' n''
    → PutsBeyond right (IsListed (xs ++ x ∷ [])) w n w'' n''
puts_more right xs x w n w' n' w'' n'' =
    puts_then right (IsListed xs) (λ e. e ≡ x) (IsListed (xs ++ x ∷ [])) w n w' n' w'' n''
    (λ e fact. listed_last e x xs fact)
    (λ e fact. listed_before e x xs fact)
    (λ e fact. subst (λ y. is_listed y (xs ++ x ∷ []) ≡ true) (sym fact) (listed_itself x xs))

pub puts_set : (right elements : Set) (xs : List Elem) (w n w' n' : Set) → map (λ x. x) xs ≡ elements.list
    → PutsBeyond right (IsListed xs) w n w' n' → PutsBeyond right (λ e. Member e elements) w n w' n'
unfolding contains
puts_set right elements xs w n w' n' all one =
    subst (λ ys. PutsBeyond right (IsListed ys) w n w' n') (sym (map-id xs) ∙ all) one

pub puts_empty : (right w n : Set) → PutsBeyond right (λ e. Member e empty) w n w n
puts_empty right w n = puts_none right (λ e. Member e empty) w n (λ e m out. Member-empty e m)

-- a position that comes before another in the order of elements
less_then : (o : Ordering) → ordering_then o Equal ≡ Less → o ≡ Less
less_then Less e = refl
less_then Equal e = cc
less_then Greater e = cc

free_above : (p q : ℕ) → IsBelow (Variable (Free p)) (Variable (Free q)) → p < q
unfolding element_order
free_above p q h =
    subst (λ o. MatchOrdering o (p < q) (p ≡ q) (q < p)) (less_then (nat_cmp p q) h) (ranked p q (nat_cmp p q) refl)

below_listed : (x : Elem) (xs : List Elem) (i : ℕ) (y : Elem) → IsBelowAll x xs → slice_get xs i ≡ Some y → IsBelow x y
below_listed x [] i y below at = cc
below_listed x (z ∷ xs) zero y below at = let is : z ≡ y = some_parts at in subst (IsBelow x) is below.0
below_listed x (z ∷ xs) (suc i) y below at = below_listed x xs i y below.1 at

-- of the positions in a rising list the one at its end is the greatest
last_greatest : (xs : List Elem) (i p q : ℕ) → IsRising xs → i ≡ length xs - 1
    → slice_get xs i ≡ Some (Variable (Free p)) → is_listed (Variable (Free q)) xs ≡ true → q ≤ p
last_greatest [] i p q rising index at m = cc
last_greatest (x ∷ []) zero p q rising index at m =
    let same : x ≡ Variable (Free p) = some_parts at in
    elim (or_cases (same_element (Variable (Free q)) x) false m) as (λ _. q ≤ p) [
      | inl is ↦ let e : q ≡ p = free_parts (same_element-true (Variable (Free q)) x is ∙ same) in omega (arith, e)
      | inr none ↦ absurd (both_ways false refl none)
    ]
last_greatest (x ∷ []) (suc i) p q rising index at m = cc
last_greatest (x ∷ y ∷ xs) zero p q rising index at m = absurd (omega (arith, index))
last_greatest (x ∷ y ∷ xs) (suc i) p q rising index at m =
    elim (or_cases (same_element (Variable (Free q)) x) (is_listed (Variable (Free q)) (y ∷ xs)) m) as (λ _. q ≤ p) [
      | inl is ↦
          let first : x ≡ Variable (Free q) = sym (same_element-true (Variable (Free q)) x is) in
          let low = free_above q p
          (subst (λ z. IsBelow z (Variable (Free p))) first
          (below_listed x (y ∷ xs) i (Variable (Free p)) rising.0 at)) in
          omega (arith, low)
      | inr later ↦ last_greatest (y ∷ xs) i p q rising.1 (omega (arith, index)) at later
    ]

last_is_greatest : (s : Set) (p q : ℕ) (x : Elem) (i n : ℕ) → n ≡ length s.list → i ≡ n - 1
    → Some x ≡ slice_get s.list i → x ≡ Variable (Free p) → Member (Variable (Free q)) s → q ≤ p
unfolding contains
last_is_greatest s p q x i n long index at same m =
    last_greatest s.list i p q s.rising (index ∙ ap (λ k. k - 1) long) (sym at ∙ ap Some same) m

last_is_member : (s : Set) (x : Elem) (i : ℕ) → Some x ≡ slice_get s.list i → Member x s
last_is_member s x i at = Member-at s i x (sym at)

none_there : (xs : List Elem) (i : ℕ) → i ≡ length xs - 1 → None ≡ slice_get xs i → xs ≡ []
none_there [] i index at = refl
none_there (x ∷ []) zero index at = cc
none_there (x ∷ []) (suc i) index at = absurd (omega (arith, index))
none_there (x ∷ y ∷ xs) zero index at = cc
none_there (x ∷ y ∷ xs) (suc i) index at = let more = none_there (y ∷ xs) i (omega (arith, index)) at in cc

pub none_is_empty : (s : Set) (i n : ℕ) → n ≡ length s.list → i ≡ n - 1 → None ≡ slice_get s.list i → s ≡ empty
unfolding empty
none_is_empty s i n long index at =
    same_list s empty (none_there s.list i (index ∙ ap (λ k. k - 1) long) at)

-- What waits are positions below a limit, and what was found are ends; what becomes of both is what becomes of the start.
pub record Follows (context : Context) (right left : Set) (limit : ℕ) (waiting found : Set) : Type 0 where
  pub rest : retain is_end (all_given_way context right limit (union waiting found)) ≡ ends_beyond context right left
  pub below : (e : Elem) → Member e waiting → IsPositionBelow limit e
  pub only : (e : Elem) → Member e found → is_end e ≡ true

-- a set without positions from one limit to another stays
pub stays : (context : Context) (right set : Set) (low high : ℕ) → low ≤ high
    → ((q : ℕ) → low ≤ q → q < high → Member (Variable (Free q)) set → ⊥)
    → all_given_way context right high set ≡ all_given_way context right low set
stays context right set low zero within none =
    let is : low ≡ zero = omega (arith, within) in ap (λ n. all_given_way context right n set) (sym is)
stays context right set low (suc high) within none =
    elim (cases_eq low (suc high))
    as (λ _. all_given_way context right (suc high) set ≡ all_given_way context right low set) [
      | inl same ↦ ap (λ n. all_given_way context right n set) (sym same)
      | inr apart ↦
          let less : low ≤ high = omega (arith, within, apart) in
          ap (all_given_way context right high) (by_test less (contains (Variable (Free high)) set) refl)
          ∙ stays context right set low high less (λ q from to. none q from (omega (arith, to)))
    ]
  where
    by_test : low ≤ high → (b : Bool) → contains (Variable (Free high)) set ≡ b → given_way context right high set ≡ set
    by_test less true is = absurd (none high less (omega arith) is)
    by_test less false is =
        ap (λ b. cond b (union (remove (Variable (Free high)) set) (beyond right (declared_of (lookup context high)))) set)
        is

end_or_variable : (e : Elem) → is_end e ≡ false → (v : Var) × (e ≡ Variable v)
end_or_variable (Variable v) is = (v, refl)
end_or_variable Cap is = cc
end_or_variable (Hole n) is = cc

-- a variable of a well-formed set is a position of the context
position_of : (context : Context) (set : Set) (n : ℕ) → IsKindedSet (kinds_of context) [] set
    → ((q : ℕ) → Member (Variable (Free q)) set → q < n) → (e : Elem) → Member e set → is_end e ≡ false
    → IsPositionBelow n e
position_of context set n known lower (Variable (Free q)) m is = (q, refl, lower q m)
position_of context set n known lower (Variable (Bound i)) m is = absurd (none_bound (known (Variable (Bound i)) m))
  where
    none_bound : None ≡ Some TermKind → ⊥
    none_bound e = cc
position_of context set n known lower Cap m is = cc
position_of context set n known lower (Hole k) m is = cc

pub follows_first : (context : Context) (right left waiting found before before' : Set) (n : ℕ) → n ≡ length context
    → before ≡ empty → before' ≡ empty
    → IsWellFormedSet context left → PutsBeyond right (λ e. Member e left) before before' waiting found
    → Follows context right left n waiting found
follows_first context right left waiting found before before' n size none none' formed put = record {
  rest =
      (λ i. retain is_end (all_given_way context right (size i) (start i)));
  below = λ e m.
      elim (put.waits e m) as (λ _. IsPositionBelow n e) [
        | inl was ↦ absurd (Member-empty e (subst (Member e) none was))
        | inr (member, out, is) ↦
            position_of context left n (IsKindedSet-from (kinds_of context) [] left formed)
            (λ q k. let low = set_lower context left formed q k in omega (arith, low, size)) e member is
      ];
  only = λ e m.
      elim (put.ended e m) as (λ _. is_end e ≡ true) [
        | inl was ↦ absurd (Member-empty e (subst (Member e) none' was))
        | inr (member, out, is) ↦ is
      ];
}
  where
    start : union waiting found ≡ beyond right left
    start =
        same_members (union waiting found) (beyond right left)
        (λ e m.
        elim ((Member-union e waiting found).0 m) as (λ _. Member e (beyond right left)) [
          | inl w ↦
              elim (put.waits e w) as (λ _. Member e (beyond right left)) [
                | inl was ↦ absurd (Member-empty e (subst (Member e) none was))
                | inr (member, out, is) ↦ both_beyond right left e member out
              ]
          | inr f ↦
              elim (put.ended e f) as (λ _. Member e (beyond right left)) [
                | inl was ↦ absurd (Member-empty e (subst (Member e) none' was))
                | inr (member, out, is) ↦ both_beyond right left e member out
              ]
        ])
        (λ e m.
        let k = beyond_both right left e m in
        (Member-union e waiting found).1 (put.all e k.0 k.1))

-- the declared set of an entry is well formed and has lower positions alone
declared_kinded : (context : Context) (p : ℕ) → IsWellFormedContext context → (entry : Option Bind) → lookup context p ≡ entry
    → IsKindedSet (kinds_of context) [] (declared_of entry)
declared_kinded context p formed (Some (TermEntry s d)) there =
    (entry_kinded context p (TermEntry s d) (IsKindedContext-from context formed) there).1
declared_kinded context p formed (Some (TypeEntry b)) there = λ e m. absurd (Member-empty e m)
declared_kinded context p formed None there = λ e m. absurd (Member-empty e m)

declared_below : (p : ℕ) (entry : Option Bind) → IsLower p entry → (q : ℕ) → Member (Variable (Free q)) (declared_of entry)
    → q < p
declared_below p (Some (TermEntry s d)) lower q m = lower q m
declared_below p (Some (TypeEntry b)) lower q m = absurd (Member-empty (Variable (Free q)) m)
declared_below p None lower q m = absurd (Member-empty (Variable (Free q)) m)

pub declared_is_lower : (context : Context) (p : ℕ) → IsWellFormedContext context → (q : ℕ)
    → Member (Variable (Free q)) (declared_of (lookup context p)) → q < p
declared_is_lower context p formed = declared_below p (lookup context p) (declared_lower context p formed)

pub declared_is_kinded : (context : Context) (p : ℕ) → IsWellFormedContext context
    → IsKindedSet (kinds_of context) [] (declared_of (lookup context p))
declared_is_kinded context p formed = declared_kinded context p formed (lookup context p) refl

ends_apart : (x : Elem) (p : ℕ) → is_end x ≡ true → x ≡ Variable (Free p) → ⊥
ends_apart x p is same = both_ways (is_end (Variable (Free p))) refl (sym (ap is_end same) ∙ is)

module _ (context : Context) (right left : Set) (limit : ℕ) (waiting found : Set) (p : ℕ)
    (formed : IsWellFormedContext context) (old : Follows context right left limit waiting found)
    (last : IsLastBelow limit waiting p) where
  abbrev declared : Set
  declared = declared_of (lookup context p)

  abbrev others : Set
  others = remove (Variable (Free p)) waiting

  module _ (waiting' found' : Set) (put : PutsBeyond right (λ e. Member e declared) others found waiting' found') where
    given : union (remove (Variable (Free p)) (union waiting found)) (beyond right declared) ≡ union waiting' found'
    given =
        same_members (union (remove (Variable (Free p)) (union waiting found)) (beyond right declared))
        (union waiting' found')
        (λ e m.
        elim ((Member-union e (remove (Variable (Free p)) (union waiting found)) (beyond right declared)).0 m)
        as (λ _. Member e (union waiting' found')) [
          | inl before ↦
              let k = (Member-remove e (Variable (Free p)) (union waiting found)).0 before in
              (Member-union e waiting' found').1
              (elim ((Member-union e waiting found).0 k.1) as (λ _. Member e waiting' ⊎ Member e found') [
                | inl w ↦ inl (put.kept_waiting e ((Member-remove e (Variable (Free p)) waiting).1 (k.0, w)))
                | inr f ↦ inr (put.kept_ends e f)
              ])
          | inr new ↦
              let k = beyond_both right declared e new in (Member-union e waiting' found').1 (put.all e k.0 k.1)
        ])
        (λ e m.
        (Member-union e (remove (Variable (Free p)) (union waiting found)) (beyond right declared)).1
        (elim ((Member-union e waiting' found').0 m)
        as (λ _. Member e (remove (Variable (Free p)) (union waiting found)) ⊎ Member e (beyond right declared)) [
          | inl w ↦
              elim (put.waits e w)
              as (λ _. Member e (remove (Variable (Free p)) (union waiting found)) ⊎ Member e (beyond right declared)) [
                | inl was ↦
                    let k = (Member-remove e (Variable (Free p)) waiting).0 was in
                    inl
                    ((Member-remove e (Variable (Free p)) (union waiting found)).1
                    (k.0, (Member-union e waiting found).1 (inl k.1)))
                | inr (member, out, is) ↦ inr (both_beyond right declared e member out)
              ]
          | inr f ↦
              elim (put.ended e f)
              as (λ _. Member e (remove (Variable (Free p)) (union waiting found)) ⊎ Member e (beyond right declared)) [
                | inl was ↦
                    inl
                    ((Member-remove e (Variable (Free p)) (union waiting found)).1
                    (ends_apart e p (old.only e was), (Member-union e waiting found).1 (inr was)))
                | inr (member, out, is) ↦ inr (both_beyond right declared e member out)
              ]
        ]))

    none_between : (q : ℕ) → suc p ≤ q → q < limit → Member (Variable (Free q)) (union waiting found) → ⊥
    none_between q from to m =
        elim ((Member-union (Variable (Free q)) waiting found).0 m) as (λ _. ⊥) [
          | inl w ↦ let low = last.2 q w in omega (arith, low, from)
          | inr f ↦ ends_apart (Variable (Free q)) q (old.only (Variable (Free q)) f) refl
        ]

    pub follows_more : Follows context right left p waiting' found'
    follows_more = record {
      rest =
          ap (λ s. retain is_end (all_given_way context right p s))
          (sym given
          ∙ sym
          (ap
          (λ b. cond b (union (remove (Variable (Free p)) (union waiting found)) (beyond right declared)) (union waiting found))
          ((Member-union (Variable (Free p)) waiting found).1 (inl last.0))))
          ∙ ap (retain is_end)
          (sym (stays context right (union waiting found) (suc p) limit (omega (arith, last.1)) none_between))
          ∙ old.rest;
      below = λ e m.
          elim (put.waits e m) as (λ _. IsPositionBelow p e) [
            | inl was ↦
                let k = (Member-remove e (Variable (Free p)) waiting).0 was in
                let at = old.below e k.1 in
                let low = last.2 at.0 (subst (λ x. Member x waiting) at.1 k.1) in
                let apart : at.0 ≡ p → ⊥ = λ same. k.0 (at.1 ∙ ap (λ n. Variable (Free n)) same) in
                (at.0, at.1, omega (arith, low, apart))
            | inr (member, out, is) ↦
                position_of context declared p (declared_is_kinded context p formed) (declared_is_lower context p formed) e
                member is
          ];
      only = λ e m.
          elim (put.ended e m) as (λ _. is_end e ≡ true) [
            | inl was ↦ old.only e was
            | inr (member, out, is) ↦ is
          ];
    }

pub follows_last : (context : Context) (right left : Set) (limit : ℕ) (waiting found : Set)
    → Follows context right left limit waiting found
    → (((e : Elem) → Member e waiting → IsPositionBelow limit e) → waiting ≡ empty)
    → found ≡ ends_beyond context right left
follows_last context right left limit waiting found old none =
    let gone : waiting ≡ empty = none old.below in
    sym only_ends
    ∙ ap (retain is_end)
    (sym (stays context right (union waiting found) zero limit (omega arith) (λ q from to m. no_position gone q m)))
    ∙ old.rest
  where
    no_position : waiting ≡ empty → (q : ℕ) → Member (Variable (Free q)) (union waiting found) → ⊥
    no_position gone q m =
        elim ((Member-union (Variable (Free q)) waiting found).0 m) as (λ _. ⊥) [
          | inl w ↦ Member-empty (Variable (Free q)) (subst (Member (Variable (Free q))) gone w)
          | inr f ↦ ends_apart (Variable (Free q)) q (old.only (Variable (Free q)) f) refl
        ]

    only_ends : retain is_end (union waiting found) ≡ found
    only_ends =
        same_members (retain is_end (union waiting found)) found
        (λ e m.
        let k = (Member-retain is_end e (union waiting found)).0 m in
        elim ((Member-union e waiting found).0 k.1) as (λ _. Member e found) [
          | inl w ↦ let at = old.below e w in absurd (ends_apart e at.0 k.0 at.1)
          | inr f ↦ f
        ])
        (λ e m.
        (Member-retain is_end e (union waiting found)).1 (old.only e m, (Member-union e waiting found).1 (inr m)))

-- what the last member is says which position is the last
pub last_found : (s : Set) (limit : ℕ) (x : Elem) (i n : ℕ) (o : Option ℕ) → n ≡ length s.list → i ≡ n - 1
    → Some x ≡ slice_get s.list i
    → MatchOption o (IsPositionBelow limit x → ⊥) (λ p. (x ≡ Variable (Free p)) × (p < limit))
    → MatchOption o (((e : Elem) → Member e s → IsPositionBelow limit e) → s ≡ empty) (λ p. IsLastBelow limit s p)
last_found s limit x i n None long index at other = λ below. absurd (other (below x (last_is_member s x i at)))
last_found s limit x i n (Some p) long index at is = (
  subst (λ y. Member y s) is.0 (last_is_member s x i at),
  is.1,
  λ q m. last_is_greatest s p q x i n long index at is.0 m,
)

-- an entry without a declared set has nothing to put
pub puts_no_entry : (right w n : Set) (o : Option Bind) → o ≡ None → PutsBeyond right (λ e. Member e (declared_of o)) w n w n
puts_no_entry right w n o is =
    subst (λ x. PutsBeyond right (λ e. Member e (declared_of x)) w n w n) (sym is) (puts_empty right w n)

pub puts_no_set : (right w n : Set) (o : Option Bind) (b : Shape) → o ≡ Some (TypeEntry b)
    → PutsBeyond right (λ e. Member e (declared_of o)) w n w n
puts_no_set right w n o b is =
    subst (λ x. PutsBeyond right (λ e. Member e (declared_of x)) w n w n) (sym is) (puts_empty right w n)

-- with other names of the entry and of what waited
pub puts_named : (right w v n w' n' : Set) (o o' : Option Bind) → v ≡ w → o ≡ o'
    → PutsBeyond right (λ e. Member e (declared_of o)) v n w' n' → PutsBeyond right (λ e. Member e (declared_of o')) w n w' n'
puts_named right w v n w' n' o o' same is put =
    subst (λ x. PutsBeyond right (λ e. Member e (declared_of x)) w n w' n') is
    (subst (λ x. PutsBeyond right (λ e. Member e (declared_of o)) x n w' n') same put)
