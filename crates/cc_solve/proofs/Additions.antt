-- Adding elements to the sets of a list.
use Rattle.std.proofs.Common.{◌≡◌, ◌⊎◌, ℕ, zero, suc, ◌<◌, Bool, true, false, ◌&&◌, List, [], ◌∷◌, ◌++◌, map, length}
use Rattle.std.proofs.Common.{set, slice_index_or, refl, sym, ap, ◌∙◌, subst, inl, inr, arith}
use Rattle.std.specs.List.{list_all}
use Rattle.std.proofs.lemmas.Bool.{cases_eq, cases_Bool, or_left, or_right}
use Rattle.std.proofs.lemmas.List.{get_or-set_same, get_or-set_other, length-set, get_or_default, map-id}
use Rattle.cc_capture.specs.declared.var.Elem.{Elem}
use Rattle.cc_capture.specs.declared.var.Elem.TheVariants.{Hole}
use Rattle.cc_capture.specs.Elements.{same_element}
use Rattle.cc_capture.specs.ElementOrder.{same_element-itself}
use Rattle.cc_capture.specs.Rising.{is_listed}
use Rattle.cc_capture.specs.Sets.{Set, Member, empty, contains, insert, union, is_subset}
use Rattle.cc_capture.proofs.Membership.{Member-empty, Member-insert, Member-union, is_subset-Member}
use Rattle.cc_sets.proofs.Markings.{listed_last, listed_before, listed_itself}
use Rattle.cc_solve.specs.Adding.{AddsThose, IsSeedOf, IsFlowOf}
use Rattle.cc_solve.specs.Solutions.{filling_of}
use Rattle.cc_solve.proofs.Puttings.{IsListed}

-- adding the elements of one fact, and then those of another
pub adds_then : (A B C : ℕ → Elem → Type 0) (old middle new : List Set)
    → ((at : ℕ) (e : Elem) → C at e → A at e ⊎ B at e) → ((at : ℕ) (e : Elem) → A at e → C at e) → ((at : ℕ) (e : Elem) → B at e → C at e)
    → AddsThose A old middle → AddsThose B middle new → AddsThose C old new
adds_then A B C old middle new split left right one two = record {
  room = two.room ∙ one.room;
  kept = λ at e m. two.kept at e (one.kept at e m);
  only = λ at e m.
      elim (two.only at e m) as (λ _. Member e (filling_of old at) ⊎ C at e) [
        | inl was ↦
            elim (one.only at e was) as (λ _. Member e (filling_of old at) ⊎ C at e) [
              | inl first ↦ inl first
              | inr fact ↦ inr (left at e fact)
            ]
        | inr fact ↦ inr (right at e fact)
      ];
  all = λ at e fact.
      elim (split at e fact) as (λ _. Member e (filling_of new at)) [
        | inl h ↦ two.kept at e (one.all at e h)
        | inr h ↦ two.all at e h
      ];
}

-- facts that hold of the same elements
pub adds_as : (A B : ℕ → Elem → Type 0) (old new : List Set) → ((at : ℕ) (e : Elem) → A at e → B at e) → ((at : ℕ) (e : Elem) → B at e → A at e)
    → AddsThose A old new → AddsThose B old new
adds_as A B old new to from one = record {
  room = one.room;
  kept = one.kept;
  only = λ at e m.
      elim (one.only at e m) as (λ _. Member e (filling_of old at) ⊎ B at e) [ inl was ↦ inl was | inr fact ↦ inr (to at e fact) ];
  all = λ at e fact. one.all at e (from at e fact);
}

-- nothing was to be added
pub adds_none : (A : ℕ → Elem → Type 0) (old : List Set) → ((at : ℕ) (e : Elem) → A at e → ⊥) → AddsThose A old old
adds_none A old none = record { room = refl; kept = λ at e m. m; only = λ at e m. inl m; all = λ at e fact. absurd (none at e fact) }

-- or all of it was there
pub adds_there : (A : ℕ → Elem → Type 0) (old : List Set) → ((at : ℕ) (e : Elem) → A at e → Member e (filling_of old at)) → AddsThose A old old
adds_there A old there = record { room = refl; kept = λ at e m. m; only = λ at e m. inl m; all = there }

-- one set has become another
pub adds_at : (Fact : Elem → Type 0) (sets : List Set) (at : ℕ) (s : Set) → at < length sets
    → ((e : Elem) → Member e (filling_of sets at) → Member e s) → ((e : Elem) → Fact e → Member e s)
    → ((e : Elem) → Member e s → Member e (filling_of sets at) ⊎ Fact e)
    → AddsThose (λ index e. (index ≡ at) × Fact e) sets (set sets at s)
adds_at Fact sets at s within keeps gives splits = record {
  room = length-set sets at s;
  kept = λ index e m.
      elim (cases_eq index at) as (λ _. Member e (filling_of (set sets at s) index)) [
        | inl is ↦ subst (Member e) (sym (here index is)) (keeps e (subst (λ k. Member e (filling_of sets k)) is m))
        | inr apart ↦ subst (Member e) (sym (get_or-set_other sets at index s empty apart)) m
      ];
  only = λ index e m.
      elim (cases_eq index at) as (λ _. Member e (filling_of sets index) ⊎ ((index ≡ at) × Fact e)) [
        | inl is ↦
            elim (splits e (subst (Member e) (here index is) m)) as (λ _. Member e (filling_of sets index) ⊎ ((index ≡ at) × Fact e)) [
              | inl was ↦ inl (subst (λ k. Member e (filling_of sets k)) (sym is) was)
              | inr fact ↦ inr (is, fact)
            ]
        | inr apart ↦ inl (subst (Member e) (get_or-set_other sets at index s empty apart) m)
      ];
  all = λ index e fact. subst (Member e) (sym (here index fact.0)) (gives e fact.1);
}
  where
    here : (index : ℕ) → index ≡ at → filling_of (set sets at s) index ≡ s
    here index is = ap (filling_of (set sets at s)) is ∙ get_or-set_same sets at s empty within

-- one element
pub adds_one : (sets : List Set) (at : ℕ) (x : Elem) (d s : Set) → at < length sets → s ≡ insert x (slice_index_or sets at d)
    → AddsThose (λ index e. (index ≡ at) × (e ≡ x)) sets (set sets at s)
adds_one sets at x d s within is =
    adds_at (λ e. e ≡ x) sets at s within (λ e m. subst (Member e) (sym own) ((Member-insert e x (filling_of sets at)).1 (inr m)))
    (λ e same. subst (Member e) (sym own) ((Member-insert e x (filling_of sets at)).1 (inl same)))
    (λ e m.
    elim ((Member-insert e x (filling_of sets at)).0 (subst (Member e) own m)) as (λ _. Member e (filling_of sets at) ⊎ (e ≡ x)) [
      | inl same ↦ inr same
      | inr was ↦ inl was
    ])
  where
    own : s ≡ insert x (filling_of sets at)
    own = is ∙ ap (insert x) (get_or_default sets at d empty within)

-- a set that is in another, read with whatever default
pub read : (sets : List Set) (at : ℕ) (s : Set) → at < length sets → s ≡ slice_index_or sets at s → s ≡ filling_of sets at
read sets at s within is = is ∙ get_or_default sets at s empty within

-- what is in one set is added to another, or is there
pub joins_there : (sets : List Set) (from to : ℕ) (one other : Set) → from < length sets → to < length sets → one ≡ slice_index_or sets from one
    → other ≡ slice_index_or sets to other → is_subset one other ≡ true
    → AddsThose (λ at e. (at ≡ to) × Member e (filling_of sets from)) sets sets
joins_there sets from to one other f t is is' inside =
    adds_there _ sets
    (λ at e fact.
    subst (λ k. Member e (filling_of sets k)) (sym fact.0)
    (subst (Member e) (read sets to other t is') ((is_subset-Member one other).0 inside e (subst (Member e) (sym (read sets from one f is)) fact.1))))

pub joins : (sets : List Set) (from to : ℕ) (one other joined : Set) → from < length sets → to < length sets → one ≡ slice_index_or sets from one
    → other ≡ slice_index_or sets to other → joined ≡ union one other
    → AddsThose (λ at e. (at ≡ to) × Member e (filling_of sets from)) sets (set sets to joined)
joins sets from to one other joined f t is is' all =
    adds_at (λ e. Member e (filling_of sets from)) sets to joined t
    (λ e m. subst (Member e) (sym all) ((Member-union e one other).1 (inr (subst (Member e) (sym here) m))))
    (λ e m. subst (Member e) (sym all) ((Member-union e one other).1 (inl (subst (Member e) (sym there) m))))
    (λ e m.
    elim ((Member-union e one other).0 (subst (Member e) all m)) as (λ _. Member e (filling_of sets to) ⊎ Member e (filling_of sets from)) [
      | inl first ↦ inr (subst (Member e) there first)
      | inr second ↦ inl (subst (Member e) here second)
    ])
  where
    there : one ≡ filling_of sets from
    there = read sets from one f is

    here : other ≡ filling_of sets to
    here = read sets to other t is'

listed_nothing : (e : Elem) → IsListed [] e → ⊥
listed_nothing e fact = let h : false ≡ true = fact in cc

listed_split : (e x : Elem) (xs : List Elem) → IsListed (xs ++ x ∷ []) e → IsListed xs e ⊎ (e ≡ x)
listed_split e x xs fact = listed_last e x xs fact

listed_here : (e x : Elem) (xs : List Elem) → e ≡ x → IsListed (xs ++ x ∷ []) e
listed_here e x xs same = subst (λ y. is_listed y (xs ++ x ∷ []) ≡ true) (sym same) (listed_itself x xs)

pub seeds_begin : (hole : ℕ) (old : List Set) → AddsThose (IsSeedOf hole (IsListed [])) old old
seeds_begin hole old = adds_none _ old (λ at e fact. listed_nothing e fact.2)

pub flows_begin : (hole : ℕ) (old : List Set) → AddsThose (IsFlowOf hole (IsListed [])) old old
flows_begin hole old = adds_none _ old (λ at e fact. listed_nothing (Hole at) fact.1)

pub seeds_more : (hole : ℕ) (xs : List Elem) (x : Elem) (old middle new : List Set) → AddsThose (IsSeedOf hole (IsListed xs)) old middle
    → AddsThose (IsSeedOf hole (λ e. e ≡ x)) middle new → AddsThose (IsSeedOf hole (IsListed (xs ++ x ∷ []))) old new
seeds_more hole xs x old middle new =
    adds_then (IsSeedOf hole (IsListed xs)) (IsSeedOf hole (λ e. e ≡ x)) (IsSeedOf hole (IsListed (xs ++ x ∷ []))) old middle new
    (λ at e fact.
    elim (listed_split e x xs fact.2) as (λ _. IsSeedOf hole (IsListed xs) at e ⊎ IsSeedOf hole (λ e'. e' ≡ x) at e) [
      | inl before ↦ inl (fact.0, fact.1, before)
      | inr last ↦ inr (fact.0, fact.1, last)
    ])
    (λ at e fact. (fact.0, fact.1, listed_before e x xs fact.2))
    (λ at e fact. (fact.0, fact.1, listed_here e x xs fact.2))

pub flows_more : (hole : ℕ) (xs : List Elem) (x : Elem) (old middle new : List Set) → AddsThose (IsFlowOf hole (IsListed xs)) old middle
    → AddsThose (IsFlowOf hole (λ e. e ≡ x)) middle new → AddsThose (IsFlowOf hole (IsListed (xs ++ x ∷ []))) old new
flows_more hole xs x old middle new =
    adds_then (IsFlowOf hole (IsListed xs)) (IsFlowOf hole (λ e. e ≡ x)) (IsFlowOf hole (IsListed (xs ++ x ∷ []))) old middle new
    (λ at e fact.
    elim (listed_split (Hole at) x xs fact.1) as (λ _. IsFlowOf hole (IsListed xs) at e ⊎ IsFlowOf hole (λ e'. e' ≡ x) at e) [
      | inl before ↦ inl (fact.0, before)
      | inr last ↦ inr (fact.0, last)
    ])
    (λ at e fact. (fact.0, listed_before (Hole at) x xs fact.1))
    (λ at e fact. (fact.0, listed_here (Hole at) x xs fact.1))

-- the elements of a list that is a set's are its members
pub listed_member : (elements : Set) (xs : List Elem) → map (λ x. x) xs ≡ elements.list → (P : (Elem → Type 0) → Type 0) → P (IsListed xs) → P (λ e. Member e elements)
unfolding contains
listed_member elements xs all P p = subst (λ ys. P (IsListed ys)) (sym (map-id xs) ∙ all) p

-- a test that fails somewhere in a list
fails_somewhere : (test : Elem → Bool) (xs : List Elem) → list_all test xs ≡ false → (x : Elem) × (is_listed x xs ≡ true) × (test x ≡ false)
fails_somewhere test [] fails = cc
fails_somewhere test (x ∷ xs) fails =
    elim (cases_Bool (test x)) as (λ _. (y : Elem) × (is_listed y (x ∷ xs) ≡ true) × (test y ≡ false)) [
      | inl holds ↦
          let rest = fails_somewhere test xs (sym (ap (λ b. b && list_all test xs) holds) ∙ fails) in
          (rest.0, or_right (same_element rest.0 x) (is_listed rest.0 xs) rest.1, rest.2)
      | inr not_so ↦ (x, or_left (same_element x x) (is_listed x xs) (same_element-itself x), not_so)
    ]

in_list : (s : Set) (e : Elem) → is_listed e s.list ≡ true → Member e s
unfolding contains
in_list s e h = h

-- where a set is not in another, it has a member that the other does not have
pub some_apart : (sets : List Set) (from to : ℕ) (one other : Set) → from < length sets → to < length sets → one ≡ slice_index_or sets from one
    → other ≡ slice_index_or sets to other → is_subset one other ≡ false
    → (e : Elem) × Member e (filling_of sets from) × (Member e (filling_of sets to) → ⊥)
unfolding is_subset
some_apart sets from to one other f t is is' apart =
    let found = fails_somewhere (λ e. contains e other) one.list apart in (
      found.0,
      subst (Member found.0) (read sets from one f is) (in_list one found.0 found.1),
      λ m. true_false (subst (Member found.0) (sym (read sets to other t is')) m) found.2,
    )
  where
    true_false : {b : Bool} → b ≡ true → b ≡ false → ⊥
    true_false holds fails = cc

-- sets with no element
pub blank_none : (sets : List Set) (at : ℕ) → sets ≡ [] → filling_of sets at ≡ empty
blank_none sets at is = ap (λ s. filling_of s at) is

blank_last : (sets : List Set) (x : Set) (at : ℕ) → x ≡ empty → ((k : ℕ) → filling_of sets k ≡ empty) → filling_of (sets ++ x ∷ []) at ≡ empty
blank_last [] x zero is blank = is
blank_last [] x (suc at) is blank = refl
blank_last (s ∷ sets) x zero is blank = blank 0
blank_last (s ∷ sets) x (suc at) is blank = blank_last sets x at is (λ k. blank (suc k))

pub blank_more : (sets new : List Set) (x : Set) (at : ℕ) → x ≡ empty → new ≡ sets ++ x ∷ [] → ((k : ℕ) → filling_of sets k ≡ empty)
    → filling_of new at ≡ empty
blank_more sets new x at is all blank = ap (λ s. filling_of s at) all ∙ blank_last sets x at is blank

-- past the list there is nothing
pub member_within : (sets : List Set) (at : ℕ) (e : Elem) → Member e (filling_of sets at) → at < length sets
member_within [] at e m = absurd (Member-empty e m)
member_within (s ∷ sets) zero e m = omega arith
member_within (s ∷ sets) (suc at) e m = let low = member_within sets at e m in omega (arith, low)
