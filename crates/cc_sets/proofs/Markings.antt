-- Marking the members of a set that another does not have.
use Rattle.std.proofs.Common.{◌≡◌, ◌⊎◌, ℕ, ◌<◌, Bool, true, false, ◌&&◌, ◌||◌, List, [], ◌∷◌, ◌++◌, map, length, get_or, set, Option, Some, None, refl, sym, ap, ◌∙◌, subst, inl, inr, arith}
use Rattle.std.specs.Bool.{MatchBool}
use Rattle.std.proofs.lemmas.Bool.{cases_eq, or_cases, or_left, or_right}
use Rattle.std.proofs.lemmas.List.{get_or-set_same, get_or-set_other, length-set, map-id}
use Rattle.std.proofs.lemmas.List.Folds.{list_any-append}
use Rattle.cc_capture.specs.declared.var.Var.{Var}
use Rattle.cc_capture.specs.declared.var.Var.TheVariants.{Bound, Free}
use Rattle.cc_capture.specs.declared.var.Elem.{Elem}
use Rattle.cc_capture.specs.declared.var.Elem.TheVariants.{Var as Variable, Cap, Hole}
use Rattle.cc_capture.specs.Elements.{same_element}
use Rattle.cc_capture.specs.ElementOrder.{same_element-true, same_element-itself}
use Rattle.cc_capture.specs.Rising.{is_listed}
use Rattle.cc_capture.specs.Sets.{Set, Member, contains}
use Rattle.cc_core.specs.Contexts.{Bind, TermEntry, TypeEntry}
use Rattle.cc_core.proofs.CallLemmas.{any-at}
use Rattle.cc_sets.specs.Marked.{is_marked}
use Rattle.cc_sets.specs.Marking.{IsPosition, HasRoom, HasRoomForEntry, MarksThose, IsThatMissing}
use Rattle.cc_sets.specs.Reaching.{IsMissing}

both_answered : (a b : Bool) (P Q R S U V : Type 0) → (P → R → U) → (Q → V) → (S → V) → MatchBool a P Q → MatchBool b R S → MatchBool (a && b) U V
both_answered true true P Q R S U V f g h p q = f p q
both_answered true false P Q R S U V f g h p q = h q
both_answered false b P Q R S U V f g h p q = g p

same_answered : (a : Bool) (P Q U V : Type 0) → (P → U) → (Q → V) → MatchBool a P Q → MatchBool a U V
same_answered true P Q U V f g p = f p
same_answered false P Q U V f g p = g p

-- marking the elements of one fact, and then those of another
pub marks_then : (A B C : Elem → Type 0) (old middle new : List Bool) (a b : Bool)
    → ((e : Elem) → C e → A e ⊎ B e) → ((e : Elem) → A e → C e) → ((e : Elem) → B e → C e)
    → MarksThose A old middle a → MarksThose B middle new b → MarksThose C old new (a && b)
marks_then A B C old middle new a b split left right one two = record {
  room = two.room ∙ one.room;
  kept = λ p m. two.kept p (one.kept p m);
  only = λ p m.
      elim (two.only p m) [
        | inl before ↦ elim (one.only p before) [ inl first ↦ inl first | inr fact ↦ inr (left _ fact) ]
        | inr fact ↦ inr (right _ fact)
      ];
  answered =
      both_answered a b _ _ _ _ _ _
      (λ f g e fact.
      elim (split e fact) as (λ _. (p : ℕ) × (e ≡ Variable (Free p)) × (is_marked p new ≡ true)) [
        | inl h ↦ let found = f e h in (found.0, found.1, two.kept found.0 found.2)
        | inr h ↦ g e h
      ])
      (λ refused. (refused.0, left refused.0 refused.1, refused.2))
      (λ refused. (refused.0, right refused.0 refused.1, refused.2))
      one.answered two.answered;
}

-- facts that hold of the same elements
pub marks_as : (A B : Elem → Type 0) (old new : List Bool) (a : Bool) → ((e : Elem) → A e → B e) → ((e : Elem) → B e → A e)
    → MarksThose A old new a → MarksThose B old new a
marks_as A B old new a to from one = record {
  room = one.room;
  kept = one.kept;
  only = λ p m. elim (one.only p m) [ inl first ↦ inl first | inr fact ↦ inr (to _ fact) ];
  answered = same_answered a _ _ _ _ (λ f e fact. f e (from e fact)) (λ refused. (refused.0, to refused.0 refused.1, refused.2)) one.answered;
}

-- nothing was to be marked
pub marks_none : (A : Elem → Type 0) (old : List Bool) → ((e : Elem) → A e → ⊥) → MarksThose A old old true
marks_none A old none = record { room = refl; kept = λ p m. m; only = λ p m. inl m; answered = λ e fact. absurd (none e fact) }

-- an element that is no position
pub marks_not : (A : Elem → Type 0) (old : List Bool) (e : Elem) → A e → (IsPosition e → ⊥) → MarksThose A old old false
marks_not A old e fact other = record { room = refl; kept = λ p m. m; only = λ p m. inl m; answered = (e, fact, other) }

-- one position
pub marks_one : (old : List Bool) (p : ℕ) → p < length old → MarksThose (λ e. e ≡ Variable (Free p)) old (set old p true) true
marks_one old p within = record {
  room = length-set old p true;
  kept = λ q m.
      elim (cases_eq q p) as (λ _. is_marked q (set old p true) ≡ true) [
        | inl is ↦ ap (λ k. is_marked k (set old p true)) is ∙ get_or-set_same old p true false within
        | inr apart ↦ get_or-set_other old p q true false apart ∙ m
      ];
  only = λ q m.
      elim (cases_eq q p) as (λ _. (is_marked q old ≡ true) ⊎ (Variable (Free q) ≡ Variable (Free p))) [
        | inl is ↦ inr (ap (λ k. Variable (Free k)) is)
        | inr apart ↦ inl (sym (get_or-set_other old p q true false apart) ∙ m)
      ];
  answered = λ e is. (p, is, get_or-set_same old p true false within);
}

clash : (b : Bool) → b ≡ true → b ≡ false → ⊥
clash b holds fails = cc

-- a variable, by its form
pub marks_free : (v : Var) (p : ℕ) (old new : List Bool) → v ≡ Free p → HasRoom old (Variable v) → new ≡ set old p true
    → MarksThose (λ e. e ≡ Variable v) old new true
marks_free v p old new is room changed =
    let within : p < length old = subst (λ w. HasRoom old (Variable w)) is room in
    subst (λ w. MarksThose (λ e. e ≡ Variable w) old new true) (sym is)
    (subst (λ m. MarksThose (λ e. e ≡ Variable (Free p)) old m true) (sym changed) (marks_one old p within))

pub marks_bound : (v : Var) (i : ℕ) (old : List Bool) → v ≡ Bound i → MarksThose (λ e. e ≡ Variable v) old old false
marks_bound v i old is = marks_not _ old (Variable v) refl (λ h. subst (λ w. IsPosition (Variable w)) is h)

-- an element, by whether the right set has it and by its form
pub marks_member : (e : Elem) (right : Set) (old : List Bool) → contains e right ≡ true → MarksThose (IsThatMissing e right) old old true
marks_member e right old here = marks_none _ old (λ x fact. fact.1 (subst (λ y. Member y right) (sym fact.0) here))

pub marks_variable : (e : Elem) (v : Var) (right : Set) (old new : List Bool) (a : Bool) → e ≡ Variable v → contains e right ≡ false
    → MarksThose (λ x. x ≡ Variable v) old new a → MarksThose (IsThatMissing e right) old new a
marks_variable e v right old new a is none one =
    marks_as _ _ old new a
    (λ x same. (same ∙ sym is, λ here. clash (contains e right) (subst (λ y. Member y right) (same ∙ sym is) here) none))
    (λ x fact. fact.0 ∙ is) one

pub marks_other : (e form : Elem) (right : Set) (old : List Bool) → e ≡ form → (IsPosition form → ⊥) → contains e right ≡ false
    → MarksThose (IsThatMissing e right) old old false
marks_other e form right old is other none = marks_not _ old e (refl, λ here. clash (contains e right) here none) (λ h. other (subst IsPosition is h))

-- room depends on the length alone
pub HasRoom-same : (old new : List Bool) (e : Elem) → length new ≡ length old → HasRoom old e → HasRoom new e
HasRoom-same old new (Variable (Free p)) same h = omega (arith, same, h)
HasRoom-same old new (Variable (Bound i)) same h = tt
HasRoom-same old new Cap same h = tt
HasRoom-same old new (Hole n) same h = tt

pub HasRoomForEntry-same : (old new : List Bool) (entry : Option Bind) → length new ≡ length old → HasRoomForEntry old entry → HasRoomForEntry new entry
HasRoomForEntry-same old new (Some (TermEntry shape declared)) same h = λ e here. HasRoom-same old new e same (h e here)
HasRoomForEntry-same old new (Some (TypeEntry bound)) same h = tt
HasRoomForEntry-same old new None same h = tt

-- the elements of a list that the right set does not have
abbrev pub IsListedMissing : List Elem → Set → Elem → Type 0
IsListedMissing xs right e = (is_listed e xs ≡ true) × (Member e right → ⊥)

pub listed_last : (e x : Elem) (xs : List Elem) → is_listed e (xs ++ x ∷ []) ≡ true → (is_listed e xs ≡ true) ⊎ (e ≡ x)
listed_last e x xs here =
    elim (or_cases (is_listed e xs) (same_element e x || false) (sym (list_any-append (same_element e) xs (x ∷ [])) ∙ here)) [
      | inl before ↦ inl before
      | inr last ↦ inr (elim (or_cases (same_element e x) false last) as (λ _. e ≡ x) [ inl same ↦ same_element-true e x same | inr none ↦ cc ])
    ]

pub listed_before : (e x : Elem) (xs : List Elem) → is_listed e xs ≡ true → is_listed e (xs ++ x ∷ []) ≡ true
listed_before e x xs here = list_any-append (same_element e) xs (x ∷ []) ∙ or_left (is_listed e xs) (same_element e x || false) here

pub listed_itself : (x : Elem) (xs : List Elem) → is_listed x (xs ++ x ∷ []) ≡ true
listed_itself x xs =
    list_any-append (same_element x) xs (x ∷ [])
    ∙ or_right (is_listed x xs) (same_element x x || false) (or_left (same_element x x) false (same_element-itself x))

pub marks_more : (xs : List Elem) (x : Elem) (right : Set) (old middle new : List Bool) (a b : Bool)
    → MarksThose (IsListedMissing xs right) old middle a → MarksThose (IsThatMissing x right) middle new b
    → MarksThose (IsListedMissing (xs ++ x ∷ []) right) old new (a && b)
marks_more xs x right old middle new a b =
    marks_then (IsListedMissing xs right) (IsThatMissing x right) (IsListedMissing (xs ++ x ∷ []) right) old middle new a b
    (λ e fact.
    elim (listed_last e x xs fact.0) as (λ _. IsListedMissing xs right e ⊎ IsThatMissing x right e) [
      | inl before ↦ inl (before, fact.1)
      | inr last ↦ inr (last, fact.1)
    ])
    (λ e fact. (listed_before e x xs fact.0, fact.1))
    (λ e fact. (subst (λ y. is_listed y (xs ++ x ∷ []) ≡ true) (sym fact.0) (listed_itself x xs), fact.1))

pub marks_end : (set right : Set) (xs : List Elem) (old new : List Bool) (a : Bool) → map (λ x. x) xs ≡ set.list
    → MarksThose (IsListedMissing xs right) old new a → MarksThose (IsMissing set right) old new a
unfolding contains
marks_end set right xs old new a all = subst (λ ys. MarksThose (IsListedMissing xs right) old new a → MarksThose (IsListedMissing ys right) old new a) (sym (map-id xs) ∙ all) (λ h. h)

-- an element at an index of a set's list is a member
pub member_at : (set : Set) (i : ℕ) (x : Elem) → (i < length set.list) × (x ≡ get_or set.list i x) → Member x set
unfolding contains
member_at set i x at = sym (any-at (same_element x) set.list i x at (same_element-itself x))
