-- Putting elements on the way along declared sets: local variables are marked, and others are put into a set.
use Rattle.std.proofs.Common.{◌≡◌, ◌⊎◌, ℕ, ◌<◌, ◌≤◌, Bool, true, false, List, [], ◌∷◌, ◌++◌, map, length, set, refl}
use Rattle.std.proofs.Common.{sym, ap, ◌∙◌, subst, inl, inr, arith}
use Rattle.std.proofs.lemmas.Bool.{cases_eq}
use Rattle.std.proofs.lemmas.List.{get_or-set_same, get_or-set_other, length-set, map-id}
use Rattle.cc_capture.specs.declared.var.Var.TheVariants.{Bound, Free}
use Rattle.cc_capture.specs.declared.var.Elem.{Elem}
use Rattle.cc_capture.specs.declared.var.Elem.TheVariants.{Var as Variable, Cap, Hole}
use Rattle.cc_capture.specs.Rising.{is_listed}
use Rattle.cc_capture.specs.Sets.{Set, Member, contains, insert}
use Rattle.cc_capture.proofs.Membership.{Member-insert}
use Rattle.cc_sets.specs.Marked.{is_marked}
use Rattle.cc_sets.proofs.Markings.{listed_last, listed_before, listed_itself}
use Rattle.cc_solve.specs.Ends.{IsEnd, Puts}

-- putting the elements of one fact, and then those of another
pub puts_then : (root : ℕ) (A B C : Elem → Type 0) (old middle new : List Bool) (before between after : Set)
    → ((e : Elem) → C e → A e ⊎ B e) → ((e : Elem) → A e → C e) → ((e : Elem) → B e → C e)
    → Puts root A old middle before between → Puts root B middle new between after → Puts root C old new before after
puts_then root A B C old middle new before between after split left right one two = record {
  room = two.room ∙ one.room;
  marks_kept = λ p m. two.marks_kept p (one.marks_kept p m);
  marks_only = λ p m.
      elim (two.marks_only p m) as (λ _. (is_marked p old ≡ true) ⊎ (C (Variable (Free p)) × root ≤ p)) [
        | inl was ↦
            elim (one.marks_only p was) as (λ _. (is_marked p old ≡ true) ⊎ (C (Variable (Free p)) × root ≤ p)) [
              | inl first ↦ inl first
              | inr fact ↦ inr (left _ fact.0, fact.1)
            ]
        | inr fact ↦ inr (right _ fact.0, fact.1)
      ];
  marks_all = λ p fact local.
      elim (split (Variable (Free p)) fact) as (λ _. is_marked p new ≡ true) [
        | inl h ↦ two.marks_kept p (one.marks_all p h local)
        | inr h ↦ two.marks_all p h local
      ];
  kept = λ e m. two.kept e (one.kept e m);
  only = λ e m.
      elim (two.only e m) as (λ _. Member e before ⊎ (C e × IsEnd root e)) [
        | inl was ↦
            elim (one.only e was) as (λ _. Member e before ⊎ (C e × IsEnd root e)) [
              | inl first ↦ inl first
              | inr fact ↦ inr (left e fact.0, fact.1)
            ]
        | inr fact ↦ inr (right e fact.0, fact.1)
      ];
  all = λ e fact end.
      elim (split e fact) as (λ _. Member e after) [
        | inl h ↦ two.kept e (one.all e h end)
        | inr h ↦ two.all e h end
      ];
}

-- facts that hold of the same elements
pub puts_as : (root : ℕ) (A B : Elem → Type 0) (old new : List Bool) (before after : Set) → ((e : Elem) → A e → B e) → ((e : Elem) → B e → A e)
    → Puts root A old new before after → Puts root B old new before after
puts_as root A B old new before after to from one = record {
  room = one.room;
  marks_kept = one.marks_kept;
  marks_only = λ p m.
      elim (one.marks_only p m) as (λ _. (is_marked p old ≡ true) ⊎ (B (Variable (Free p)) × root ≤ p)) [
        | inl was ↦ inl was
        | inr fact ↦ inr (to _ fact.0, fact.1)
      ];
  marks_all = λ p fact local. one.marks_all p (from _ fact) local;
  kept = one.kept;
  only = λ e m.
      elim (one.only e m) as (λ _. Member e before ⊎ (B e × IsEnd root e)) [
        | inl was ↦ inl was
        | inr fact ↦ inr (to e fact.0, fact.1)
      ];
  all = λ e fact end. one.all e (from e fact) end;
}

-- nothing was to be put
pub puts_none : (root : ℕ) (A : Elem → Type 0) (old : List Bool) (before : Set) → ((e : Elem) → A e → ⊥) → Puts root A old old before before
puts_none root A old before none = record {
  room = refl;
  marks_kept = λ p m. m;
  marks_only = λ p m. inl m;
  marks_all = λ p fact local. absurd (none _ fact);
  kept = λ e m. m;
  only = λ e m. inl m;
  all = λ e fact end. absurd (none e fact);
}

-- an element that is no local variable
pub puts_end : (root : ℕ) (x : Elem) (old : List Bool) (before : Set) → IsEnd root x → ((p : ℕ) → x ≡ Variable (Free p) → root ≤ p → ⊥)
    → Puts root (λ e. e ≡ x) old old before (insert x before)
puts_end root x old before end other = record {
  room = refl;
  marks_kept = λ p m. m;
  marks_only = λ p m. inl m;
  marks_all = λ p fact local. absurd (other p (sym fact) local);
  kept = λ e m. (Member-insert e x before).1 (inr m);
  only = λ e m.
      elim ((Member-insert e x before).0 m) as (λ _. Member e before ⊎ ((e ≡ x) × IsEnd root e)) [
        | inl is ↦ inr (is, subst (IsEnd root) (sym is) end)
        | inr was ↦ inl was
      ];
  all = λ e fact end. (Member-insert e x before).1 (inl fact);
}

not_local_position : (root p q : ℕ) → p < root → Variable (Free p) ≡ Variable (Free q) → root ≤ q → ⊥
not_local_position root p q below same local = let is : p ≡ q = cc in omega (arith, below, is, local)

-- a global position
pub puts_global : (root p : ℕ) (old : List Bool) (before : Set) → p < root
    → Puts root (λ e. e ≡ Variable (Free p)) old old before (insert (Variable (Free p)) before)
puts_global root p old before below =
    puts_end root (Variable (Free p)) old before below (λ q same local. not_local_position root p q below same local)

-- the others
pub puts_index : (root i : ℕ) (old : List Bool) (before : Set) → Puts root (λ e. e ≡ Variable (Bound i)) old old before before
puts_index root i old before = record {
  room = refl;
  marks_kept = λ p m. m;
  marks_only = λ p m. inl m;
  marks_all = λ p fact local. cc;
  kept = λ e m. m;
  only = λ e m. inl m;
  all = λ e fact end. absurd (subst (IsEnd root) fact end);
}

pub puts_cap : (root : ℕ) (old : List Bool) (before : Set) → Puts root (λ e. e ≡ Cap) old old before (insert Cap before)
puts_cap root old before = puts_end root Cap old before tt (λ q same local. cc)

pub puts_hole : (root n : ℕ) (old : List Bool) (before : Set) → Puts root (λ e. e ≡ Hole n) old old before (insert (Hole n) before)
puts_hole root n old before = puts_end root (Hole n) old before tt (λ q same local. cc)

-- a local variable
pub puts_local : (root p : ℕ) (old : List Bool) (before : Set) → root ≤ p → p < length old
    → Puts root (λ e. e ≡ Variable (Free p)) old (set old p true) before before
puts_local root p old before from within = record {
  room = length-set old p true;
  marks_kept = λ q m.
      elim (cases_eq q p) as (λ _. is_marked q (set old p true) ≡ true) [
        | inl is ↦ ap (λ k. is_marked k (set old p true)) is ∙ get_or-set_same old p true false within
        | inr apart ↦ get_or-set_other old p q true false apart ∙ m
      ];
  marks_only = λ q m.
      elim (cases_eq q p) as (λ _. (is_marked q old ≡ true) ⊎ ((Variable (Free q) ≡ Variable (Free p)) × root ≤ q)) [
        | inl is ↦ inr (ap (λ k. Variable (Free k)) is, omega (arith, is, from))
        | inr apart ↦ inl (sym (get_or-set_other old p q true false apart) ∙ m)
      ];
  marks_all = λ q fact local.
      let is : q ≡ p = cc in ap (λ k. is_marked k (set old p true)) is ∙ get_or-set_same old p true false within;
  kept = λ e m. m;
  only = λ e m. inl m;
  all = λ e fact end. absurd (not_local_position root p p (subst (IsEnd root) fact end) refl from);
}

-- the elements of a list
abbrev pub IsListed : List Elem → Elem → Type 0
IsListed xs e = is_listed e xs ≡ true

pub puts_begin : (root : ℕ) (old : List Bool) (before : Set) → Puts root (IsListed []) old old before before
puts_begin root old before = puts_none root (IsListed []) old before (λ e fact. let h : false ≡ true = fact in cc)

pub puts_more : (root : ℕ) (xs : List Elem) (x : Elem) (old middle new : List Bool) (before between after : Set)
    → Puts root (IsListed xs) old middle before between → Puts root (λ e. e ≡ x) middle new between after
    → Puts root (IsListed (xs ++ x ∷ [])) old new before after
puts_more root xs x old middle new before between after =
    puts_then root (IsListed xs) (λ e. e ≡ x) (IsListed (xs ++ x ∷ [])) old middle new before between after
    (λ e fact. listed_last e x xs fact)
    (λ e fact. listed_before e x xs fact)
    (λ e fact. subst (λ y. is_listed y (xs ++ x ∷ []) ≡ true) (sym fact) (listed_itself x xs))

pub puts_set : (root : ℕ) (elements : Set) (xs : List Elem) (old new : List Bool) (before after : Set) → map (λ x. x) xs ≡ elements.list
    → Puts root (IsListed xs) old new before after → Puts root (λ e. Member e elements) old new before after
unfolding contains
puts_set root elements xs old new before after all one =
    subst (λ ys. Puts root (IsListed ys) old new before after) (sym (map-id xs) ∙ all) one

-- with another name of the set
pub puts_put : (root : ℕ) (A : Elem → Type 0) (old new : List Bool) (before after again : Set) → again ≡ after → Puts root A old new before after
    → Puts root A old new before again
puts_put root A old new before after again is one = subst (Puts root A old new before) (sym is) one

-- of an element that is known to be another
pub puts_named : (root : ℕ) (x y : Elem) (old new : List Bool) (before after : Set) → x ≡ y → Puts root (λ e. e ≡ y) old new before after
    → Puts root (λ e. e ≡ x) old new before after
puts_named root x y old new before after same one = puts_as root (λ e. e ≡ y) (λ e. e ≡ x) old new before after (λ e is. is ∙ sym same) (λ e is. is ∙ same) one
