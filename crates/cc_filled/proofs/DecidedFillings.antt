-- The test whether a term is another one with its omitted sets filled in decides it.
use Rattle.std.proofs.Common.{◌≡◌, ◌↔◌, ◌⊎◌, ℕ, zero, suc, nat_eq, Bool, true, false, ◌&&◌, ◌||◌, ℤ, pos, negsuc, List, [], ◌∷◌, Option, Some, None, refl, ap, sym, subst, inl, inr, ◌∙◌}
use Rattle.std.specs.List.{list_any}
use Rattle.std.proofs.lemmas.Bool.{and_parts, and_from, or_left, or_right, eqb-true, eq-eqb, false_from_ne_true, true_from_ne_false, true≢false}
use Rattle.std.proofs.lemmas.Slice.Eq.{bytes_eq-Decides}
use Rattle.cc_base.specs.Literals.{Literal, UnitLiteral, TruthLiteral, NumberLiteral, TextLiteral}
use Rattle.cc_base.specs.declared.literal.Operator.{Operator}
use Rattle.cc_base.specs.declared.literal.Operator.TheVariants as operators
use Rattle.cc_base.specs.declared.literal.Op.{Op}
use Rattle.cc_base.specs.declared.literal.Op.TheVariants as operations
use Rattle.cc_capture.specs.declared.var.Var.{Var}
use Rattle.cc_capture.specs.declared.var.Elem.{Elem}
use Rattle.cc_capture.specs.declared.var.Elem.TheVariants.{Var as Variable, Cap, Hole}
use Rattle.cc_capture.specs.ElementOrder.{same_element-true, same_element-itself}
use Rattle.cc_capture.specs.Elements.{same_element}
use Rattle.cc_capture.specs.Rising.{is_listed}
use Rattle.cc_capture.specs.Sets.{Set, Member, contains, same_set}
use Rattle.cc_capture.specs.Variables.{same_variable}
use Rattle.cc_capture.proofs.Equality.{same_variable-decides, same_set-decides}
use Rattle.cc_core.specs.Equality.{same_shape}
use Rattle.cc_core.specs.Occurrences.{HasNoHoleInSet, IsNoHole}
use Rattle.cc_core.specs.Questions.{is_hole}
use Rattle.cc_core.specs.Shapes.{Shape}
use Rattle.cc_core.specs.Terms.{Note, Absent, Written, Own, Term, VariableTerm, LiteralTerm, FunctionTerm, TypeFunctionTerm, BoxTerm, Application, TypeApplication, Unboxing, Let, Primitive, Conditional, Repetition, Operation, Boundary, Leave}
use Rattle.cc_core.proofs.Comparisons.{same_shape-decides}
use Rattle.cc_filled.specs.FilledTerms.{IsOmitted, FillsSet, FillsOpenedSet, FillsNote, IsFilledAs, fills-variable, fills-literal, fills-function, fills-type_function, fills-box, fills-application, fills-type_application, fills-unboxing, fills-let, fills-primitive, fills-choice, fills-repetition, fills-operation, fills-boundary, fills-exit}
use Rattle.cc_filled.specs.FilledTests.{same_number, same_truth, same_literal, operator_number, operation_number, same_argument, is_omitted, fills_set, fills_opened_set, fills_note, is_filled_as}

-- PARTS

same_variables : (a b : Var) → same_variable a b ≡ true → a ≡ b
same_variables a b = (same_variable-decides a b).0

variable_itself : (a : Var) → same_variable a a ≡ true
variable_itself a = (same_variable-decides a a).1 refl

same_shapes : (a b : Shape) → same_shape a b ≡ true → a ≡ b
same_shapes a b = (same_shape-decides a b).0

shape_itself : (a : Shape) → same_shape a a ≡ true
shape_itself a = (same_shape-decides a a).1 refl

same_sets : (a b : Set) → same_set a b ≡ true → a ≡ b
same_sets a b = (same_set-decides a b).0

set_itself : (a : Set) → same_set a a ≡ true
set_itself a = (same_set-decides a a).1 refl

same_numbers : (a b : ℤ) → same_number a b ≡ true → a ≡ b
same_numbers (pos a) (pos b) e = ap pos (eqb-true a b e)
same_numbers (negsuc a) (negsuc b) e = ap negsuc (eqb-true a b e)
same_numbers (pos a) (negsuc b) e = cc
same_numbers (negsuc a) (pos b) e = cc

number_itself : (a : ℤ) → same_number a a ≡ true
number_itself (pos a) = eq-eqb a a refl
number_itself (negsuc a) = eq-eqb a a refl

same_truths : (a b : Bool) → same_truth a b ≡ true → a ≡ b
same_truths true true e = refl
same_truths false false e = refl
same_truths true false e = cc
same_truths false true e = cc

truth_itself : (a : Bool) → same_truth a a ≡ true
truth_itself true = refl
truth_itself false = refl

pub same_literals : (a b : Literal) → same_literal a b ≡ true → a ≡ b
same_literals UnitLiteral UnitLiteral e = refl
same_literals (TruthLiteral a) (TruthLiteral b) e = ap TruthLiteral (same_truths a b e)
same_literals (NumberLiteral a) (NumberLiteral b) e = ap NumberLiteral (same_numbers a b e)
same_literals (TextLiteral a) (TextLiteral b) e = ap TextLiteral ((bytes_eq-Decides a b).0 e)
same_literals _ _ e = cc

pub literal_itself : (a : Literal) → same_literal a a ≡ true
literal_itself UnitLiteral = refl
literal_itself (TruthLiteral a) = truth_itself a
literal_itself (NumberLiteral a) = number_itself a
literal_itself (TextLiteral a) = (bytes_eq-Decides a a).1 refl

operator_of : ℕ → Operator
operator_of zero = operators.Add
operator_of (suc zero) = operators.Sub
operator_of (suc (suc zero)) = operators.Mul
operator_of (suc (suc (suc zero))) = operators.Less
operator_of (suc (suc (suc (suc n)))) = operators.Equal

operator_of-number : (o : Operator) → operator_of (operator_number o) ≡ o
unfolding operator_of
operator_of-number operators.Add = refl
operator_of-number operators.Sub = refl
operator_of-number operators.Mul = refl
operator_of-number operators.Less = refl
operator_of-number operators.Equal = refl

same_operators : (a b : Operator) → nat_eq (operator_number a) (operator_number b) ≡ true → a ≡ b
same_operators a b e =
    sym (operator_of-number a) ∙ ap operator_of (eqb-true (operator_number a) (operator_number b) e)
    ∙ operator_of-number b

operator_itself : (a : Operator) → nat_eq (operator_number a) (operator_number a) ≡ true
operator_itself a = eq-eqb (operator_number a) (operator_number a) refl

operation_of : ℕ → Op
operation_of zero = operations.Print
operation_of (suc zero) = operations.Say
operation_of (suc (suc zero)) = operations.Read
operation_of (suc (suc (suc zero))) = operations.Write
operation_of (suc (suc (suc (suc n)))) = operations.Tick

operation_of-number : (o : Op) → operation_of (operation_number o) ≡ o
unfolding operation_of
operation_of-number operations.Print = refl
operation_of-number operations.Say = refl
operation_of-number operations.Read = refl
operation_of-number operations.Write = refl
operation_of-number operations.Tick = refl

same_operations : (a b : Op) → nat_eq (operation_number a) (operation_number b) ≡ true → a ≡ b
same_operations a b e =
    sym (operation_of-number a) ∙ ap operation_of (eqb-true (operation_number a) (operation_number b) e)
    ∙ operation_of-number b

operation_itself : (a : Op) → nat_eq (operation_number a) (operation_number a) ≡ true
operation_itself a = eq-eqb (operation_number a) (operation_number a) refl

same_arguments : (a b : Option Var) → same_argument a b ≡ true → a ≡ b
same_arguments None None e = refl
same_arguments None (Some b) e = cc
same_arguments (Some a) None e = cc
same_arguments (Some a) (Some b) e = ap (λ v. Some v) (same_variables a b e)

argument_itself : (a : Option Var) → same_argument a a ≡ true
argument_itself None = refl
argument_itself (Some a) = variable_itself a

-- SETS

either : (a b : Bool) → (a || b) ≡ true → (a ≡ true) ⊎ (b ≡ true)
either true b e = inl refl
either false b e = inr e

any_hole : (xs : List Elem) → list_any is_hole xs ≡ true → (n : ℕ) × (is_listed (Hole n) xs ≡ true)
any_hole [] e = cc
any_hole (Variable v ∷ xs) e = let rest = any_hole xs e in (rest.0, or_right _ _ rest.1)
any_hole (Cap ∷ xs) e = let rest = any_hole xs e in (rest.0, or_right _ _ rest.1)
any_hole (Hole n ∷ xs) e = (n, or_left _ _ (same_element-itself (Hole n)))

hole_there : (n : ℕ) (xs : List Elem) → is_listed (Hole n) xs ≡ true → list_any is_hole xs ≡ true
hole_there n [] e = cc
hole_there n (x ∷ xs) e =
    elim (either (same_element (Hole n) x) (is_listed (Hole n) xs) e) [
      | inl same ↦ (let is = same_element-true (Hole n) x same in or_left _ _ (subst (λ y. is_hole y ≡ true) is refl))
      | inr rest ↦ or_right _ _ (hole_there n xs rest)
    ]

omitted_by_test : (s : Set) → is_omitted s ≡ true → IsOmitted s
unfolding contains
omitted_by_test s e = any_hole s.list e

pub test_of_omitted : (s : Set) → IsOmitted s → is_omitted s ≡ true
unfolding contains
test_of_omitted s h = hole_there h.0 s.list h.1

-- the test for holes says whether a set is omitted
pub says_omitted : (b : Bool) (s : Set) → (b ≡ false) ↔ HasNoHoleInSet s → b ≡ is_omitted s
says_omitted false s says =
    sym (false_from_ne_true (is_omitted s) (λ t.
    let there = omitted_by_test s t in
    let none : IsNoHole (Hole there.0) = says.0 refl (Hole there.0) there.1 in none))
says_omitted true s says =
    sym (true_from_ne_false (is_omitted s) (λ f. true≢false (says.1 (no_hole f))))
  where
    no_hole : is_omitted s ≡ false → HasNoHoleInSet s
    no_hole f (Variable v) m = tt
    no_hole f Cap m = tt
    no_hole f (Hole n) m = absurd (true≢false (sym (test_of_omitted s (n, m)) ∙ f))

fills_set-true : (c d : Set) → fills_set c d ≡ true → FillsSet c d
fills_set-true c d e =
    elim (either (is_omitted c) (same_set c d) e) [
      | inl omitted ↦ inl (omitted_by_test c omitted)
      | inr same ↦ inr (same_sets c d same)
    ]

true-fills_set : (c d : Set) → FillsSet c d → fills_set c d ≡ true
true-fills_set c d (inl omitted) = or_left _ _ (test_of_omitted c omitted)
true-fills_set c d (inr same) = or_right _ _ (subst (λ s. same_set c s ≡ true) same (set_itself c))

fills_opened-true : (o p : Option Set) → fills_opened_set o p ≡ true → FillsOpenedSet o p
fills_opened-true None None e = cc
fills_opened-true None (Some d) e = (d, refl)
fills_opened-true (Some c) None e = cc
fills_opened-true (Some c) (Some d) e = ap (λ s. Some s) (sym (same_sets c d e))

true-fills_opened : (o p : Option Set) → FillsOpenedSet o p → fills_opened_set o p ≡ true
true-fills_opened None p h = subst (λ x. fills_opened_set None x ≡ true) (sym h.1) refl
true-fills_opened (Some c) p h = subst (λ x. fills_opened_set (Some c) x ≡ true) (sym h) (set_itself c)

fills_note-true : (n m : Note) → fills_note n m ≡ true → FillsNote n m
fills_note-true Absent Absent e = refl
fills_note-true (Written s c) (Written s' c') e =
    let parts = and_parts _ _ e in
    let p = sym (same_shapes s s' parts.0) in
    let q = sym (same_sets c c' parts.1) in
    λ i. Written (p i) (q i)
fills_note-true (Own s) (Written s' c') e = (c', ap (λ x. Written x c') (sym (same_shapes s s' e)))
fills_note-true _ _ e = cc

true-fills_note : (n m : Note) → FillsNote n m → fills_note n m ≡ true
true-fills_note Absent m h = subst (λ x. fills_note Absent x ≡ true) (sym h) refl
true-fills_note (Written s c) m h =
    subst (λ x. fills_note (Written s c) x ≡ true) (sym h) (and_from _ _ (shape_itself s) (set_itself c))
true-fills_note (Own s) m h = subst (λ x. fills_note (Own s) x ≡ true) (sym h.1) (shape_itself s)

-- TERMS

filled_by_test : (t u : Term) → is_filled_as t u ≡ true → IsFilledAs t u
filled_by_test (VariableTerm v) (VariableTerm w) e =
    subst (λ x. IsFilledAs (VariableTerm v) (VariableTerm x)) (same_variables v w e) fills-variable
filled_by_test (LiteralTerm l) (LiteralTerm m) e =
    subst (λ x. IsFilledAs (LiteralTerm l) (LiteralTerm x)) (same_literals l m e) fills-literal
filled_by_test (FunctionTerm s c t) (FunctionTerm s' d u) e =
    let parts = and_parts _ _ e in
    let first = and_parts _ _ parts.0 in
    subst (λ x. IsFilledAs (FunctionTerm s c t) (FunctionTerm x d u)) (same_shapes s s' first.0)
    (fills-function (fills_set-true c d first.1) (filled_by_test t u parts.1))
filled_by_test (TypeFunctionTerm s t) (TypeFunctionTerm s' u) e =
    let parts = and_parts _ _ e in
    subst (λ x. IsFilledAs (TypeFunctionTerm s t) (TypeFunctionTerm x u)) (same_shapes s s' parts.0)
    (fills-type_function (filled_by_test t u parts.1))
filled_by_test (BoxTerm v) (BoxTerm w) e =
    subst (λ x. IsFilledAs (BoxTerm v) (BoxTerm x)) (same_variables v w e) fills-box
filled_by_test (Application f x) (Application g y) e =
    let parts = and_parts _ _ e in
    let p = same_variables f g parts.0 in
    let q = same_variables x y parts.1 in
    subst (λ z. IsFilledAs (Application f x) z) (λ i. Application (p i) (q i)) fills-application
filled_by_test (TypeApplication f s) (TypeApplication g s') e =
    let parts = and_parts _ _ e in
    let p = same_variables f g parts.0 in
    let q = same_shapes s s' parts.1 in
    subst (λ z. IsFilledAs (TypeApplication f s) z) (λ i. TypeApplication (p i) (q i)) fills-type_application
filled_by_test (Unboxing o v) (Unboxing o' w) e =
    let parts = and_parts _ _ e in
    subst (λ x. IsFilledAs (Unboxing o v) (Unboxing o' x)) (same_variables v w parts.1)
    (fills-unboxing (fills_opened-true o o' parts.0))
filled_by_test (Let n t b) (Let n' t' b') e =
    let parts = and_parts _ _ e in
    let first = and_parts _ _ parts.0 in
    fills-let (fills_note-true n n' first.0) (filled_by_test t t' first.1) (filled_by_test b b' parts.1)
filled_by_test (Primitive o v w) (Primitive o' v' w') e =
    let parts = and_parts _ _ e in
    let first = and_parts _ _ parts.0 in
    let p = same_operators o o' first.0 in
    let q = same_variables v v' first.1 in
    let r = same_variables w w' parts.1 in
    subst (λ z. IsFilledAs (Primitive o v w) z) (λ i. Primitive (p i) (q i) (r i)) fills-primitive
filled_by_test (Conditional n v t b) (Conditional n' v' t' b') e =
    let parts = and_parts _ _ e in
    let second = and_parts _ _ parts.0 in
    let first = and_parts _ _ second.0 in
    subst (λ x. IsFilledAs (Conditional n v t b) (Conditional n' x t' b')) (same_variables v v' first.1)
    (fills-choice (fills_note-true n n' first.0) (filled_by_test t t' second.1) (filled_by_test b b' parts.1))
filled_by_test (Repetition v w) (Repetition v' w') e =
    let parts = and_parts _ _ e in
    let p = same_variables v v' parts.0 in
    let q = same_variables w w' parts.1 in
    subst (λ z. IsFilledAs (Repetition v w) z) (λ i. Repetition (p i) (q i)) fills-repetition
filled_by_test (Operation o v a) (Operation o' v' a') e =
    let parts = and_parts _ _ e in
    let first = and_parts _ _ parts.0 in
    let p = same_operations o o' first.0 in
    let q = same_variables v v' first.1 in
    let r = same_arguments a a' parts.1 in
    subst (λ z. IsFilledAs (Operation o v a) z) (λ i. Operation (p i) (q i) (r i)) fills-operation
filled_by_test (Boundary s t) (Boundary s' u) e =
    let parts = and_parts _ _ e in
    subst (λ x. IsFilledAs (Boundary s t) (Boundary x u)) (same_shapes s s' parts.0)
    (fills-boundary (filled_by_test t u parts.1))
filled_by_test (Leave s c v w) (Leave s' c' v' w') e =
    let parts = and_parts _ _ e in
    let second = and_parts _ _ parts.0 in
    let first = and_parts _ _ second.0 in
    let p = same_shapes s s' first.0 in
    let q = same_sets c c' first.1 in
    let r = same_variables v v' second.1 in
    let u = same_variables w w' parts.1 in
    subst (λ z. IsFilledAs (Leave s c v w) z) (λ i. Leave (p i) (q i) (r i) (u i)) fills-exit
filled_by_test _ _ e = cc

test_of_filled : (t u : Term) → IsFilledAs t u → is_filled_as t u ≡ true
test_of_filled _ _ (fills-variable {variable = v}) = variable_itself v
test_of_filled _ _ (fills-literal {literal = l}) = literal_itself l
test_of_filled _ _ (fills-function {takes = s} {c = c} {d = d} {body = t} {filled = u} set body) =
    and_from _ _ (and_from _ _ (shape_itself s) (true-fills_set c d set)) (test_of_filled t u body)
test_of_filled _ _ (fills-type_function {bound = s} {body = t} {filled = u} body) =
    and_from _ _ (shape_itself s) (test_of_filled t u body)
test_of_filled _ _ (fills-box {content = v}) = variable_itself v
test_of_filled _ _ (fills-application {function = f} {argument = x}) =
    and_from _ _ (variable_itself f) (variable_itself x)
test_of_filled _ _ (fills-type_application {function = f} {argument = s}) =
    and_from _ _ (variable_itself f) (shape_itself s)
test_of_filled _ _ (fills-unboxing {opened = o} {opened' = p} {box = v} set) =
    and_from _ _ (true-fills_opened o p set) (variable_itself v)
test_of_filled _ _ (fills-let {note = n} {note' = n'} {right = t} {right' = t'} {body = b} {body' = b'} note right body) =
    and_from _ _ (and_from _ _ (true-fills_note n n' note) (test_of_filled t t' right)) (test_of_filled b b' body)
test_of_filled _ _ (fills-primitive {operator = o} {left = v} {right = w}) =
    and_from _ _ (and_from _ _ (operator_itself o) (variable_itself v)) (variable_itself w)
test_of_filled _ _ (fills-choice {note = n} {note' = n'} {test = v} {positive = t} {positive' = t'} {negative = b} {negative' = b'} note one other) =
    and_from _ _ (and_from _ _ (and_from _ _ (true-fills_note n n' note) (variable_itself v)) (test_of_filled t t' one))
    (test_of_filled b b' other)
test_of_filled _ _ (fills-repetition {count = v} {function = w}) = and_from _ _ (variable_itself v) (variable_itself w)
test_of_filled _ _ (fills-operation {operation = o} {receiver = v} {argument = a}) =
    and_from _ _ (and_from _ _ (operation_itself o) (variable_itself v)) (argument_itself a)
test_of_filled _ _ (fills-boundary {gives = s} {body = t} {filled = u} body) =
    and_from _ _ (shape_itself s) (test_of_filled t u body)
test_of_filled _ _ (fills-exit {gives = s} {c = c} {exit = v} {value = w}) =
    and_from _ _ (and_from _ _ (and_from _ _ (shape_itself s) (set_itself c)) (variable_itself v)) (variable_itself w)

pub filled_decides : (term filled : Term) → (is_filled_as term filled ≡ true) ↔ IsFilledAs term filled
filled_decides term filled = (filled_by_test term filled, test_of_filled term filled)
