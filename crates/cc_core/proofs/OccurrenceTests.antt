-- The tests that look for a position or for a hole say no exactly where none occurs.
use Rattle.std.proofs.Common.{◌≡◌, ◌↔◌, ℕ, suc, Bool, true, false, ◌||◌, List, [], ◌∷◌, refl, sym, ap, subst, ◌∙◌, inl, inr}
use Rattle.std.specs.List.{list_any}
use Rattle.std.proofs.lemmas.Bool.{false_from_ne_true, or_parts, or_cases}
use Rattle.std.proofs.Math.Bool.{or-true}
use Rattle.cc_capture.specs.declared.var.Var.{Var}
use Rattle.cc_capture.specs.declared.var.Var.TheVariants.{Free}
use Rattle.cc_capture.specs.declared.var.Elem.{Elem}
use Rattle.cc_capture.specs.declared.var.Elem.TheVariants.{Var as Variable, Cap, Hole}
use Rattle.cc_capture.specs.ElementOrder.{same_element-true, same_element-itself}
use Rattle.cc_capture.specs.Elements.{same_element}
use Rattle.cc_capture.specs.Rising.{is_listed}
use Rattle.cc_capture.specs.Variables.{same_variable}
use Rattle.cc_capture.specs.Sets.{Set, Member, contains}
use Rattle.cc_capture.proofs.Equality.{same_variable-decides}
use Rattle.cc_core.specs.declared.occurrences.Question.TheVariants as questions
use Rattle.cc_core.specs.Shapes.{Shape, BaseShape, AnyShape, TypeVariable, FunctionShape, TypeFunctionShape, BoxShape, ExitShape, CapturingType}
use Rattle.cc_core.specs.Occurrences.{Condition, Meets, MeetsInSet, MeetsInType, IsAskedOf, IsNoHole, without, without_holes}
use Rattle.cc_core.specs.Questions.{Question, is_hole, occurs, occurs_in_type}
use Rattle.cc_core.specs.TermViews.{question_of}

-- a test says no exactly where a fact holds
abbrev pub SaysNo : Bool → Type 0 → Type 0
SaysNo test Fact = (test ≡ false) ↔ Fact

nothing : SaysNo false (Unit {0})
nothing = (λ e. tt, λ h. refl)

two_say : (a b : Bool) {A B : Type 0} → SaysNo a A → SaysNo b B → SaysNo (a || b) (A × B)
two_say true b p q = (λ e. cc, λ h. p.1 h.0)
two_say false b p q = (λ e. (p.0 refl, q.0 e), λ h. q.1 h.1)

three_say_so : (a b c : Bool) {A B C : Type 0} → SaysNo a A → SaysNo b B → SaysNo c C → SaysNo (a || (b || c)) (A × B × C)
three_say_so true b c p q r = (λ e. cc, λ h. p.1 h.0)
three_say_so false true c p q r = (λ e. cc, λ h. q.1 h.1)
three_say_so false false c p q r = (λ e. (p.0 refl, q.0 refl, r.0 e), λ h. r.1 h.2)

four_say : (a b c d : Bool) {A B C D : Type 0} → SaysNo a A → SaysNo b B → SaysNo c C → SaysNo d D → SaysNo ((a || b) || (c || d)) (A × B × C × D)
four_say true b c d p q r s = (λ e. cc, λ h. p.1 h.0)
four_say false true c d p q r s = (λ e. cc, λ h. q.1 h.1)
four_say false false true d p q r s = (λ e. cc, λ h. r.1 h.2)
four_say false false false d p q r s = (λ e. (p.0 refl, q.0 refl, r.0 refl, s.0 e), λ h. s.1 h.3)

-- a question says no of a set and of a variable exactly where the condition is met
pub record Decides (question : Question) (condition : Condition) : Type 0 where
  pub in_set : (depth : ℕ) (set : Set) → SaysNo (question.in_set set) (MeetsInSet condition depth set)
  pub at_shape : (depth : ℕ) (v : Var) → SaysNo (question.at v) (condition.shape depth v)
  pub at_variable : (depth : ℕ) (v : Var) → SaysNo (question.at v) (condition.variable depth v)

pub decided : (q : Question) (c : Condition) → Decides q c → (depth : ℕ) (s : Shape) → SaysNo (occurs q s) (Meets c depth s)
decided q c d depth (BaseShape base) = nothing
decided q c d depth AnyShape = nothing
decided q c d depth (TypeVariable v) = d.at_shape depth v
decided q c d depth (FunctionShape takes c1 gives c2) =
    four_say _ _ _ _ (decided q c d depth takes) (d.in_set depth c1) (decided q c d (suc depth) gives) (d.in_set (suc depth) c2)
decided q c d depth (TypeFunctionShape bound gives c2) =
    three_say_so _ _ _ (decided q c d depth bound) (decided q c d (suc depth) gives) (d.in_set (suc depth) c2)
decided q c d depth (BoxShape content c1) = two_say _ _ (decided q c d depth content) (d.in_set depth c1)
decided q c d depth (ExitShape gives) = decided q c d depth gives

pub decided_type : (q : Question) (c : Condition) → Decides q c → (depth : ℕ) (t : CapturingType) → SaysNo (occurs_in_type q t) (MeetsInType c depth t)
decided_type q c d depth t = two_say _ _ (decided q c d depth t.shape) (d.in_set depth t.set)

true_false : {A : Type 0} {b : Bool} → b ≡ true → b ≡ false → A
true_false e f = cc

-- a position

no_position : (p : ℕ) (set : Set) → contains (Variable (Free p)) set ≡ false → (e : Elem) → Member e set → IsAskedOf (λ v. v ≡ Free p → ⊥) e
no_position p set none (Variable v) member = λ e. true_false (subst (λ w. contains (Variable w) set ≡ true) e member) none
no_position p set none Cap member = tt
no_position p set none (Hole number) member = tt

in_set-without : (p depth : ℕ) (set : Set) → SaysNo (contains (Variable (Free p)) set) (MeetsInSet (without p) depth set)
in_set-without p depth set =
    (no_position p set, λ all. false_from_ne_true _ (λ member. all (Variable (Free p)) member refl))

at-without : (p : ℕ) (v : Var) → SaysNo (same_variable (Free p) v) (v ≡ Free p → ⊥)
at-without p v =
    (λ none e. true_false ((same_variable-decides (Free p) v).1 (sym e)) none, λ other. false_from_ne_true _ (λ same. other (sym ((same_variable-decides (Free p) v).0 same))))

pub position-decides : (p : ℕ) → Decides (question_of (questions.Position p)) (without p)
position-decides p =
    record { in_set = in_set-without p; at_shape = λ depth. at-without p; at_variable = λ depth. at-without p }

-- a hole

no_hole : (e : Elem) → SaysNo (is_hole e) (IsNoHole e)
no_hole (Variable v) = nothing
no_hole Cap = nothing
no_hole (Hole number) = (λ e. cc, λ h. absurd h)

none_listed : (xs : List Elem) → list_any is_hole xs ≡ false → (e : Elem) → is_listed e xs ≡ true → IsNoHole e
none_listed [] none e member = true_false member refl
none_listed (x ∷ xs) none e member =
    let parts = or_parts (is_hole x) (list_any is_hole xs) none in
    elim (or_cases _ _ member) [
      | inl here ↦ subst IsNoHole (sym (same_element-true e x here)) ((no_hole x).0 parts.0)
      | inr there ↦ none_listed xs parts.1 e there
    ]

listed_none : (xs : List Elem) → ((e : Elem) → is_listed e xs ≡ true → IsNoHole e) → list_any is_hole xs ≡ false
listed_none [] all = refl
listed_none (x ∷ xs) all =
    ap (λ b. b || list_any is_hole xs) ((no_hole x).1 (all x (ap (λ b. b || is_listed x xs) (same_element-itself x))))
    ∙ listed_none xs (λ e member. all e (ap (λ b. same_element e x || b) member ∙ or-true (same_element e x)))

in_set-without_holes : (depth : ℕ) (set : Set) → SaysNo (list_any is_hole set.list) (MeetsInSet without_holes depth set)
unfolding contains
in_set-without_holes depth set = (none_listed set.list, listed_none set.list)

pub hole-decides : Decides (question_of questions.Hole) without_holes
hole-decides = record { in_set = in_set-without_holes; at_shape = λ depth v. nothing; at_variable = λ depth v. nothing }

-- an answer that is a test's says what the test does
pub says : {answer test : Bool} {Fact : Type 0} → answer ≡ test → SaysNo test Fact → SaysNo answer Fact
says e s = (λ none. s.0 (sym e ∙ none), λ h. e ∙ s.1 h)
