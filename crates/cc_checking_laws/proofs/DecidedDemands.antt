-- Whether what is asked is served, found with so many steps; and the first that is not.
use Rattle.std.proofs.Common.{◌≡◌, ◌⊎◌, ℕ, zero, suc, Bool, true, false, not, cond, List, [], ◌∷◌, Option, Some, None, refl, sym, ap, ◌∙◌, subst, inl, inr}
use Rattle.std.proofs.lemmas.Bool.{or_cases, or_left, or_right, both_ways}
use Rattle.cc_base.specs.declared.code.Code.{Code}
use Rattle.cc_base.specs.declared.place.Place.{Place}
use Rattle.cc_capture.specs.declared.var.Var.TheVariants.{Bound, Free}
use Rattle.cc_capture.specs.declared.var.Elem.{Elem}
use Rattle.cc_capture.specs.declared.var.Elem.TheVariants.{Var as Variable, Cap, Hole}
use Rattle.cc_capture.specs.Elements.{same_element}
use Rattle.cc_capture.specs.ElementOrder.{same_element-true, same_element-itself}
use Rattle.cc_capture.specs.Rising.{is_listed}
use Rattle.cc_capture.specs.Sets.{Set, Member, contains}
use Rattle.cc_core.specs.Shapes.{Shape}
use Rattle.cc_core.specs.Contexts.{Bind, TermEntry, TypeEntry, Context, lookup}
use Rattle.cc_core.specs.Substitution.{filled_set}
use Rattle.cc_core.specs.Subcapturing.{Subcaptures, element, variable}
use Rattle.cc_core.proofs.SubcapturingLemmas.{subcaptures_variable, subcaptures_other}
use Rattle.cc_checking.specs.Outcomes.{Asked, IsBelow, IsCapless, Placed}
use Rattle.cc_checking.specs.Fillings.{Filling, filled_context, IsServed, AllServed, code_of_failure, FailsFirst}

-- what is known of a question by its answer, if there is one
abbrev pub Known : Option Bool → Type 0 → Type 0
Known None Question = Unit {0}
Known (Some true) Question = Question
Known (Some false) Question = Question → ⊥

-- both questions, the first one first
abbrev pub both : Option Bool → Option Bool → Option Bool
both None other = None
both (Some true) other = other
both (Some false) other = Some false

-- the question of each element
abbrev pub decide_all : (Elem → Option Bool) → List Elem → Option Bool
decide_all test [] = Some true
decide_all test (e ∷ elements) = both (test e) (decide_all test elements)

-- each element of the list is such
abbrev pub Each : (Elem → Type 0) → List Elem → Type 0
Each Fact elements = (e : Elem) → is_listed e elements ≡ true → Fact e

pub listed_first : (e : Elem) (xs : List Elem) → is_listed e (e ∷ xs) ≡ true
listed_first e xs = or_left _ _ (same_element-itself e)

pub listed_later : (e x : Elem) (xs : List Elem) → is_listed e xs ≡ true → is_listed e (x ∷ xs) ≡ true
listed_later e x xs here = or_right (same_element e x) _ here

pub listed_cases : (e x : Elem) (xs : List Elem) → is_listed e (x ∷ xs) ≡ true → (e ≡ x) ⊎ (is_listed e xs ≡ true)
listed_cases e x xs here = elim (or_cases _ _ here) [ inl same ↦ inl (same_element-true e x same) | inr there ↦ inr there ]

known_both : (Fact : Elem → Type 0) (x : Elem) (xs : List Elem) (one other : Option Bool) → Known one (Fact x) → Known other (Each Fact xs)
    → Known (both one other) (Each Fact (x ∷ xs))
known_both Fact x xs None other k h = tt
known_both Fact x xs (Some false) other k h = λ each. k (each x (listed_first x xs))
known_both Fact x xs (Some true) None k h = tt
known_both Fact x xs (Some true) (Some false) k h = λ each. h (λ e m. each e (listed_later e x xs m))
known_both Fact x xs (Some true) (Some true) k h = λ e m. by_case e (listed_cases e x xs m)
  where
    by_case : (e : Elem) → (e ≡ x) ⊎ (is_listed e xs ≡ true) → Fact e
    by_case e (inl same) = subst Fact (sym same) k
    by_case e (inr there) = h e there

pub known_all : (test : Elem → Option Bool) (Fact : Elem → Type 0) → ((e : Elem) → Known (test e) (Fact e)) → (xs : List Elem) → Known (decide_all test xs) (Each Fact xs)
known_all test Fact known [] = λ e m. absurd (both_ways false refl m)
known_all test Fact known (x ∷ xs) = known_both Fact x xs (test x) (decide_all test xs) (known x) (known_all test Fact known xs)

-- a variable by the declared set of its entry
abbrev decide_entry : (Elem → Option Bool) → Option Bind → Option Bool
decide_entry deeper (Some (TermEntry shape declared)) = decide_all deeper declared.list
decide_entry deeper (Some (TypeEntry bound)) = Some false
decide_entry deeper None = Some false

-- an element that is no member
abbrev decide_other : (Elem → Option Bool) → Context → Elem → Option Bool
decide_other deeper g (Variable (Free p)) = decide_entry deeper (lookup g p)
decide_other deeper g (Variable (Bound i)) = Some false
decide_other deeper g Cap = Some false
decide_other deeper g (Hole h) = Some false

-- whether an element is below a set, by at most so many declared sets
abbrev pub decide_element : ℕ → Context → Set → Elem → Option Bool
decide_element zero g c e = cond (contains e c) (Some true) None
decide_element (suc n) g c e = cond (contains e c) (Some true) (decide_other (decide_element n g c) g e)

-- where an element is no member, and what is known of elements is right
abbrev Rightly : (Elem → Option Bool) → Context → Set → Type 0
Rightly test g c = (e : Elem) → Known (test e) (Subcaptures g e c)

pub known_when : (a : Option Bool) {P Q : Type 0} → (P → Q) → (Q → P) → Known a P → Known a Q
known_when None there back k = tt
known_when (Some true) there back k = there k
known_when (Some false) there back k = λ q. k (back q)

known_entry : (test : Elem → Option Bool) (g : Context) (c : Set) → Rightly test g c → (p : ℕ) → (Member (Variable (Free p)) c → ⊥) → (found : Option Bind) → lookup g p ≡ found
    → Known (decide_entry test found) (Subcaptures g (Variable (Free p)) c)
unfolding contains
known_entry test g c right p none (Some (TermEntry s d)) there =
    known_when (decide_all test d.list) (λ each. variable there each)
    (λ below. elim ((subcaptures_variable g p s d c there).0 below) as (λ _. Each (λ e. Subcaptures g e c) d.list) [ inl here ↦ absurd (none here) | inr each ↦ each ])
    (known_all test (λ e. Subcaptures g e c) right d.list)
known_entry test g c right p none (Some (TypeEntry b)) there =
    λ below. none (subcaptures_other g (Variable (Free p)) c (λ q s d same found. other q s d same found) below)
  where
    other : (q : ℕ) (s : Shape) (d : Set) → Variable (Free p) ≡ Variable (Free q) → lookup g q ≡ Some (TermEntry s d) → ⊥
    other q s d same found = let at : q ≡ p = cc in let clash : Some (TypeEntry b) ≡ Some (TermEntry s d) = sym there ∙ ap (lookup g) (sym at) ∙ found in cc
known_entry test g c right p none None there =
    λ below. none (subcaptures_other g (Variable (Free p)) c (λ q s d same found. other q s d same found) below)
  where
    other : (q : ℕ) (s : Shape) (d : Set) → Variable (Free p) ≡ Variable (Free q) → lookup g q ≡ Some (TermEntry s d) → ⊥
    other q s d same found = let at : q ≡ p = cc in let clash : None ≡ Some (TermEntry s d) = sym there ∙ ap (lookup g) (sym at) ∙ found in cc

known_other : (test : Elem → Option Bool) (g : Context) (c : Set) → Rightly test g c → (e : Elem) → (Member e c → ⊥) → Known (decide_other test g e) (Subcaptures g e c)
known_other test g c right (Variable (Free p)) none = known_entry test g c right p none (lookup g p) refl
known_other test g c right (Variable (Bound i)) none = λ below. none (subcaptures_other g (Variable (Bound i)) c (λ q s d same found. cc) below)
known_other test g c right Cap none = λ below. none (subcaptures_other g Cap c (λ q s d same found. cc) below)
known_other test g c right (Hole h) none = λ below. none (subcaptures_other g (Hole h) c (λ q s d same found. cc) below)

known_member : (g : Context) (c : Set) (e : Elem) (rest : Option Bool) (b : Bool) → contains e c ≡ b → ((Member e c → ⊥) → Known rest (Subcaptures g e c))
    → Known (cond b (Some true) rest) (Subcaptures g e c)
known_member g c e rest true here known = element here
known_member g c e rest false here known = known (λ m. both_ways (contains e c) here m)

pub known_element : (n : ℕ) (g : Context) (c : Set) → Rightly (decide_element n g c) g c
known_element zero g c e = known_member g c e None (contains e c) refl (λ none. tt)
known_element (suc n) g c e =
    known_member g c e (decide_other (decide_element n g c) g e) (contains e c) refl
    (λ none. known_other (decide_element n g c) g c (known_element n g c) e none)

-- whether what is asked is served
abbrev pub decide_asked : ℕ → Filling → Asked → Option Bool
decide_asked n f (IsBelow d) = decide_all (decide_element n (filled_context f d.context) (filled_set f d.right)) (filled_set f d.left).list
decide_asked n f (IsCapless s) = Some (not (contains Cap (filled_set f s)))

known_capless : (c : Set) (b : Bool) → contains Cap c ≡ b → Known (Some (not b)) (Member Cap c → ⊥)
known_capless c true here = λ none. none here
known_capless c false here = λ m. both_ways (contains Cap c) here m

pub known_asked : (n : ℕ) (f : Filling) (asked : Asked) → Known (decide_asked n f asked) (IsServed f asked)
unfolding contains
known_asked n f (IsBelow d) =
    known_all (decide_element n (filled_context f d.context) (filled_set f d.right)) (λ e. Subcaptures (filled_context f d.context) e (filled_set f d.right))
    (known_element n (filled_context f d.context) (filled_set f d.right)) (filled_set f d.left).list
known_asked n f (IsCapless s) = known_capless (filled_set f s) (contains Cap (filled_set f s)) refl

-- all that is asked is served, or the first that is not has the code and the place
pub data Judged : Type 0 where
  NotKnown : Judged
  AllPass : Judged
  FailsAt : (code : Code) (at : Place) → Judged

-- one answer, and then the others
abbrev pub judged_before : Option Bool → Placed → Judged → Judged
judged_before None first rest = NotKnown
judged_before (Some true) first rest = rest
judged_before (Some false) first rest = FailsAt (code_of_failure first.asked) first.at

abbrev pub judged : ℕ → Filling → List Placed → Judged
judged n f [] = AllPass
judged n f (first ∷ rest) = judged_before (decide_asked n f first.asked) first (judged n f rest)

-- what it says
abbrev pub Says : Filling → List Placed → Judged → Type 0
Says f list NotKnown = Unit {0}
Says f list AllPass = AllServed f list
Says f list (FailsAt code at) = FailsFirst f list code at

says_before : (f : Filling) (first : Placed) (rest : List Placed) (answer : Option Bool) (later : Judged) → Known answer (IsServed f first.asked) → Says f rest later
    → Says f (first ∷ rest) (judged_before answer first later)
says_before f first rest None later known says = tt
says_before f first rest (Some false) later known says = ([], first, rest, refl, tt, known, refl, refl)
says_before f first rest (Some true) NotKnown known says = tt
says_before f first rest (Some true) AllPass known says = (known, says)
says_before f first rest (Some true) (FailsAt code at) known (before, p, after, is, served, fails, is_code, is_place) =
    (first ∷ before, p, after, ap (λ l. first ∷ l) is, (known, served), fails, is_code, is_place)

pub judged_says : (n : ℕ) (f : Filling) (list : List Placed) → Says f list (judged n f list)
judged_says n f [] = tt
judged_says n f (first ∷ rest) = says_before f first rest (decide_asked n f first.asked) (judged n f rest) (known_asked n f first.asked) (judged_says n f rest)
