-- A term is stuck exactly where it does not find what it needs.
use Rattle.std.proofs.Common.{◌≡◌, ◌≢◌, ℕ, zero, suc, Bool, true, false, cond, List, [], ◌∷◌, ◌++◌, Option, Some, None, refl, sym, ap, subst}
use Rattle.std.specs.Prelude.{ℤ, pos, negsuc, nat_eq}
use Rattle.std.specs.Option.{option_map}
use Rattle.std.proofs.lemmas.Bool.{eqb-true, eq-eqb}
use Rattle.cc_base.specs.declared.literal.Base.{Base}
use Rattle.cc_base.specs.declared.literal.Base.TheVariants as bases
use Rattle.cc_base.specs.declared.literal.Operator.{Operator}
use Rattle.cc_base.specs.declared.literal.Op.{Op}
use Rattle.cc_base.specs.declared.literal.Op.TheVariants as operations
use Rattle.cc_base.specs.Literals.{Literal, UnitLiteral, TruthLiteral, NumberLiteral, TextLiteral}
use Rattle.cc_capture.specs.declared.var.Var.{Var}
use Rattle.cc_core.specs.Shapes.{Shape}
use Rattle.cc_core.specs.Stores.{Cell, ValueCell, DeviceCell, LabelCell, Store, cell_at}
use Rattle.cc_core.specs.Terms.{Term, VariableTerm, LiteralTerm, FunctionTerm, TypeFunctionTerm, BoxTerm, Application}
use Rattle.cc_core.specs.Terms.{TypeApplication, Unboxing, Let, Primitive, Conditional, Repetition, Operation, Boundary}
use Rattle.cc_core.specs.Terms.{Leave}
use Rattle.cc_device.specs.Events.{Event}
use Rattle.cc_runs.specs.Machine.{Frame, LetFrame, ScopeFrame, RepetitionFrame, Stack, Configuration, configured, StepOutcome, Stuck, Final, Next, Ask, going, let_step, apply_step, type_apply_step, unbox_step, literal_in, primitive_step, conditional_step, repetition_step, repeat_step, call_with_number, argument_at, operation_step, below_scope, exit_to, exit_step, variable_step, value_step, step}
use Rattle.cc_worked_runs.specs.FittingCells as fitting
use Rattle.cc_worked_runs.specs.FittingCells.{HoldsFunction, HoldsTypeFunction, HoldsBox, HoldsTruth, HoldsNumber, HoldsText, HoldsDevice, HasScope, HoldsExit, HasArgument, CanOperate, FindsWhatItNeeds}

-- the step asks a device
abbrev AsksADevice : StepOutcome → Type 0
AsksADevice (Ask device operation argument resume) = Unit {0}
AsksADevice _ = ⊥

-- what goes on, is final or asks is not stuck
next_goes : (event : Option Event) (next : Configuration) → Next event next ≢ Stuck
next_goes event next e = cc

final_goes : Final ≢ Stuck
final_goes e = cc

ask_goes : (device : ℕ) (operation : Op) (argument : Option Literal) (resume : Literal → Configuration) → Ask device operation argument resume ≢ Stuck
ask_goes device operation argument resume e = cc

either_goes : (test : Bool) (a b : StepOutcome) → a ≢ Stuck → b ≢ Stuck → cond test a b ≢ Stuck
either_goes true a b first second = first
either_goes false a b first second = second

-- CELLS

apply_finds : (store : Store) (stack : Stack) (labels : ℕ) (argument : Var) (cell : Option Cell)
    → apply_step store stack labels argument cell ≢ Stuck → HoldsFunction cell
apply_finds store stack labels argument (Some (ValueCell (FunctionTerm takes c body))) goes = (takes, c, body, refl)
apply_finds store stack labels argument _ goes = absurd (goes refl)

apply_goes : (store : Store) (stack : Stack) (labels : ℕ) (argument : Var) (cell : Option Cell)
    → HoldsFunction cell → apply_step store stack labels argument cell ≢ Stuck
apply_goes store stack labels argument cell holds =
    subst (λ o. apply_step store stack labels argument o ≢ Stuck) (sym holds.3) (next_goes _ _)

type_apply_finds : (store : Store) (stack : Stack) (labels : ℕ) (argument : Shape) (cell : Option Cell)
    → type_apply_step store stack labels argument cell ≢ Stuck → HoldsTypeFunction cell
type_apply_finds store stack labels argument (Some (ValueCell (TypeFunctionTerm bound body))) goes = (bound, body, refl)
type_apply_finds store stack labels argument _ goes = absurd (goes refl)

type_apply_goes : (store : Store) (stack : Stack) (labels : ℕ) (argument : Shape) (cell : Option Cell)
    → HoldsTypeFunction cell → type_apply_step store stack labels argument cell ≢ Stuck
type_apply_goes store stack labels argument cell holds =
    subst (λ o. type_apply_step store stack labels argument o ≢ Stuck) (sym holds.2) (next_goes _ _)

unbox_finds : (store : Store) (stack : Stack) (labels : ℕ) (cell : Option Cell)
    → unbox_step store stack labels cell ≢ Stuck → HoldsBox cell
unbox_finds store stack labels (Some (ValueCell (BoxTerm content))) goes = (content, refl)
unbox_finds store stack labels _ goes = absurd (goes refl)

unbox_goes : (store : Store) (stack : Stack) (labels : ℕ) (cell : Option Cell)
    → HoldsBox cell → unbox_step store stack labels cell ≢ Stuck
unbox_goes store stack labels cell holds =
    subst (λ o. unbox_step store stack labels o ≢ Stuck) (sym holds.1) (next_goes _ _)

-- LITERALS

literal_found : (cell : Option Cell) (literal : Literal) → literal_in cell ≡ Some literal → cell ≡ Some (ValueCell (LiteralTerm literal))
literal_found (Some (ValueCell (LiteralTerm other))) literal e = let same : other ≡ literal = cc in ap (λ l. Some (ValueCell (LiteralTerm l))) same
literal_found _ literal e = absurd (none_some literal e)
  where
    none_some : (l : Literal) → ◌≡◌ {A = Option Literal} None (Some l) → ⊥
    none_some l h = cc

primitive_finds : (store : Store) (stack : Stack) (labels : ℕ) (operator : Operator) (left right : Option Literal)
    → primitive_step store stack labels operator left right ≢ Stuck
    → (m : ℤ) × (n : ℤ) × (left ≡ Some (NumberLiteral m)) × (right ≡ Some (NumberLiteral n))
primitive_finds store stack labels operator (Some (NumberLiteral m)) (Some (NumberLiteral n)) goes = (m, n, refl, refl)
primitive_finds store stack labels operator _ _ goes = absurd (goes refl)

operands_found : (store : Store) (stack : Stack) (labels : ℕ) (operator : Operator) (left right : Option Cell)
    → primitive_step store stack labels operator (literal_in left) (literal_in right) ≢ Stuck → HoldsNumber left × HoldsNumber right
operands_found store stack labels operator left right goes =
    let found = primitive_finds store stack labels operator (literal_in left) (literal_in right) goes in
    ((found.0, literal_found left (NumberLiteral found.0) found.2), (found.1, literal_found right (NumberLiteral found.1) found.3))

primitive_goes : (store : Store) (stack : Stack) (labels : ℕ) (operator : Operator) (left right : Option Cell)
    → HoldsNumber left × HoldsNumber right → primitive_step store stack labels operator (literal_in left) (literal_in right) ≢ Stuck
primitive_goes store stack labels operator left right holds =
    subst (λ o. primitive_step store stack labels operator (literal_in o) (literal_in right) ≢ Stuck) (sym holds.0.1)
    (subst (λ o. primitive_step store stack labels operator (Some (NumberLiteral holds.0.0)) (literal_in o) ≢ Stuck) (sym holds.1.1) (next_goes _ _))

conditional_finds : (store : Store) (stack : Stack) (labels : ℕ) (positive negative : Term) (test : Option Literal)
    → conditional_step store stack labels positive negative test ≢ Stuck → (truth : Bool) × (test ≡ Some (TruthLiteral truth))
conditional_finds store stack labels positive negative (Some (TruthLiteral truth)) goes = (truth, refl)
conditional_finds store stack labels positive negative _ goes = absurd (goes refl)

truth_found : (store : Store) (stack : Stack) (labels : ℕ) (positive negative : Term) (cell : Option Cell)
    → conditional_step store stack labels positive negative (literal_in cell) ≢ Stuck → HoldsTruth cell
truth_found store stack labels positive negative cell goes =
    let found = conditional_finds store stack labels positive negative (literal_in cell) goes in
    (found.0, literal_found cell (TruthLiteral found.0) found.1)

conditional_goes : (store : Store) (stack : Stack) (labels : ℕ) (positive negative : Term) (cell : Option Cell)
    → HoldsTruth cell → conditional_step store stack labels positive negative (literal_in cell) ≢ Stuck
conditional_goes store stack labels positive negative cell holds =
    subst (λ o. conditional_step store stack labels positive negative (literal_in o) ≢ Stuck) (sym holds.1) (next_goes _ _)

repetition_finds : (store : Store) (stack : Stack) (labels : ℕ) (function : Var) (count : Option Literal)
    → repetition_step store stack labels function count ≢ Stuck → (number : ℤ) × (count ≡ Some (NumberLiteral number))
repetition_finds store stack labels function (Some (NumberLiteral number)) goes = (number, refl)
repetition_finds store stack labels function _ goes = absurd (goes refl)

count_found : (store : Store) (stack : Stack) (labels : ℕ) (function : Var) (cell : Option Cell)
    → repetition_step store stack labels function (literal_in cell) ≢ Stuck → HoldsNumber cell
count_found store stack labels function cell goes =
    let found = repetition_finds store stack labels function (literal_in cell) goes in
    (found.0, literal_found cell (NumberLiteral found.0) found.1)

number_goes : (store : Store) (stack : Stack) (labels : ℕ) (function : Var) (number : ℤ)
    → repetition_step store stack labels function (Some (NumberLiteral number)) ≢ Stuck
number_goes store stack labels function (pos zero) = next_goes _ _
number_goes store stack labels function (pos (suc fewer)) = next_goes _ _
number_goes store stack labels function (negsuc count) = next_goes _ _

repetition_goes : (store : Store) (stack : Stack) (labels : ℕ) (function : Var) (cell : Option Cell)
    → HoldsNumber cell → repetition_step store stack labels function (literal_in cell) ≢ Stuck
repetition_goes store stack labels function cell holds =
    subst (λ o. repetition_step store stack labels function (literal_in o) ≢ Stuck) (sym holds.1) (number_goes store stack labels function holds.0)

-- OPERATIONS

-- what is given as an argument, if something is
given : (store : Store) (argument : Option Var) (literal : Literal) → argument_at store argument ≡ Some (Some literal)
    → (variable : Var) × (argument ≡ Some variable) × (cell_at store variable ≡ Some (ValueCell (LiteralTerm literal)))
given store None literal e = cc
given store (Some variable) literal e = (variable, refl, literal_found (cell_at store variable) literal (inside (literal_in (cell_at store variable)) literal e))
  where
    inside : (o : Option Literal) (l : Literal) → option_map (λ (x : Literal). Some x) o ≡ Some (Some l) → o ≡ Some l
    inside (Some x) l h = cc
    inside None l h = cc

not_given : (store : Store) (argument : Option Var) → argument_at store argument ≡ Some None → argument ≡ None
not_given store None e = refl
not_given store (Some variable) e = absurd (inside (literal_in (cell_at store variable)) e)
  where
    inside : (o : Option Literal) → option_map (λ (x : Literal). Some x) o ≡ Some None → ⊥
    inside (Some x) h = cc
    inside None h = cc

is_given : (store : Store) (argument : Option Var) (variable : Var) (literal : Literal) → argument ≡ Some variable
    → cell_at store variable ≡ Some (ValueCell (LiteralTerm literal)) → argument_at store argument ≡ Some (Some literal)
is_given store argument variable literal e is =
    subst (λ o. argument_at store o ≡ Some (Some literal)) (sym e) (ap (λ o. option_map (λ (x : Literal). Some x) (literal_in o)) is)

print_finds : (store : Store) (stack : Stack) (labels : ℕ) (cell : Option Cell) (argument : Option (Option Literal))
    → operation_step store stack labels operations.Print cell argument ≢ Stuck
    → HoldsDevice bases.Console cell × ((number : ℤ) × (argument ≡ Some (Some (NumberLiteral number))))
print_finds store stack labels (Some (DeviceCell device bases.Console)) (Some (Some (NumberLiteral number))) goes = ((device, refl), (number, refl))
print_finds store stack labels (Some (DeviceCell device base)) None goes = absurd (goes refl)
print_finds store stack labels (Some (DeviceCell device base)) (Some argument) goes = absurd (goes refl)
print_finds store stack labels _ _ goes = absurd (goes refl)

say_finds : (store : Store) (stack : Stack) (labels : ℕ) (cell : Option Cell) (argument : Option (Option Literal))
    → operation_step store stack labels operations.Say cell argument ≢ Stuck
    → HoldsDevice bases.Console cell × ((text : List ℕ) × (argument ≡ Some (Some (TextLiteral text))))
say_finds store stack labels (Some (DeviceCell device bases.Console)) (Some (Some (TextLiteral text))) goes = ((device, refl), (text, refl))
say_finds store stack labels (Some (DeviceCell device base)) None goes = absurd (goes refl)
say_finds store stack labels (Some (DeviceCell device base)) (Some argument) goes = absurd (goes refl)
say_finds store stack labels _ _ goes = absurd (goes refl)

read_finds : (store : Store) (stack : Stack) (labels : ℕ) (cell : Option Cell) (argument : Option (Option Literal))
    → operation_step store stack labels operations.Read cell argument ≢ Stuck
    → HoldsDevice bases.File cell × (argument ≡ Some None)
read_finds store stack labels (Some (DeviceCell device bases.File)) (Some None) goes = ((device, refl), refl)
read_finds store stack labels (Some (DeviceCell device base)) None goes = absurd (goes refl)
read_finds store stack labels (Some (DeviceCell device base)) (Some argument) goes = absurd (goes refl)
read_finds store stack labels _ _ goes = absurd (goes refl)

write_finds : (store : Store) (stack : Stack) (labels : ℕ) (cell : Option Cell) (argument : Option (Option Literal))
    → operation_step store stack labels operations.Write cell argument ≢ Stuck
    → HoldsDevice bases.File cell × ((number : ℤ) × (argument ≡ Some (Some (NumberLiteral number))))
write_finds store stack labels (Some (DeviceCell device bases.File)) (Some (Some (NumberLiteral number))) goes = ((device, refl), (number, refl))
write_finds store stack labels (Some (DeviceCell device base)) None goes = absurd (goes refl)
write_finds store stack labels (Some (DeviceCell device base)) (Some argument) goes = absurd (goes refl)
write_finds store stack labels _ _ goes = absurd (goes refl)

tick_finds : (store : Store) (stack : Stack) (labels : ℕ) (cell : Option Cell) (argument : Option (Option Literal))
    → operation_step store stack labels operations.Tick cell argument ≢ Stuck
    → HoldsDevice bases.Counter cell × (argument ≡ Some None)
tick_finds store stack labels (Some (DeviceCell device bases.Counter)) (Some None) goes = ((device, refl), refl)
tick_finds store stack labels (Some (DeviceCell device base)) None goes = absurd (goes refl)
tick_finds store stack labels (Some (DeviceCell device base)) (Some argument) goes = absurd (goes refl)
tick_finds store stack labels _ _ goes = absurd (goes refl)

number_given : (store : Store) (argument : Option Var) → (number : ℤ) × (argument_at store argument ≡ Some (Some (NumberLiteral number)))
    → HasArgument store HoldsNumber argument
number_given store argument found =
    let it = given store argument (NumberLiteral found.0) found.1 in (it.0, it.1, (found.0, it.2))

text_given : (store : Store) (argument : Option Var) → (text : List ℕ) × (argument_at store argument ≡ Some (Some (TextLiteral text)))
    → HasArgument store HoldsText argument
text_given store argument found =
    let it = given store argument (TextLiteral found.0) found.1 in (it.0, it.1, (found.0, it.2))

operation_finds : (store : Store) (stack : Stack) (labels : ℕ) (operation : Op) (receiver : Var) (argument : Option Var)
    → operation_step store stack labels operation (cell_at store receiver) (argument_at store argument) ≢ Stuck
    → CanOperate store operation receiver argument
operation_finds store stack labels operations.Print receiver argument goes =
    let found = print_finds store stack labels (cell_at store receiver) (argument_at store argument) goes in
    (found.0, number_given store argument found.1)
operation_finds store stack labels operations.Say receiver argument goes =
    let found = say_finds store stack labels (cell_at store receiver) (argument_at store argument) goes in
    (found.0, text_given store argument found.1)
operation_finds store stack labels operations.Read receiver argument goes =
    let found = read_finds store stack labels (cell_at store receiver) (argument_at store argument) goes in
    (found.0, not_given store argument found.1)
operation_finds store stack labels operations.Write receiver argument goes =
    let found = write_finds store stack labels (cell_at store receiver) (argument_at store argument) goes in
    (found.0, number_given store argument found.1)
operation_finds store stack labels operations.Tick receiver argument goes =
    let found = tick_finds store stack labels (cell_at store receiver) (argument_at store argument) goes in
    (found.0, not_given store argument found.1)

module _ (store : Store) (stack : Stack) (labels : ℕ) where
  -- where the device and the argument are these, the operation asks
  asked_at : (operation : Op) (receiver : Var) (argument : Option Var) (device : ℕ) (base : Base) (literal : Option Literal)
      → cell_at store receiver ≡ Some (DeviceCell device base) → argument_at store argument ≡ Some literal
      → AsksADevice (operation_step store stack labels operation (Some (DeviceCell device base)) (Some literal))
      → AsksADevice (operation_step store stack labels operation (cell_at store receiver) (argument_at store argument))
  asked_at operation receiver argument device base literal cell taken asks =
      subst (λ o. AsksADevice (operation_step store stack labels operation o (argument_at store argument))) (sym cell)
      (subst (λ o. AsksADevice (operation_step store stack labels operation (Some (DeviceCell device base)) o)) (sym taken) asks)

  operation_asks : (operation : Op) (receiver : Var) (argument : Option Var) → CanOperate store operation receiver argument
      → AsksADevice (operation_step store stack labels operation (cell_at store receiver) (argument_at store argument))
  operation_asks operations.Print receiver argument can =
      asked_at operations.Print receiver argument can.0.0 bases.Console (Some (NumberLiteral can.1.2.0)) can.0.1
      (is_given store argument can.1.0 (NumberLiteral can.1.2.0) can.1.1 can.1.2.1) tt
  operation_asks operations.Say receiver argument can =
      asked_at operations.Say receiver argument can.0.0 bases.Console (Some (TextLiteral can.1.2.0)) can.0.1
      (is_given store argument can.1.0 (TextLiteral can.1.2.0) can.1.1 can.1.2.1) tt
  operation_asks operations.Read receiver argument can =
      asked_at operations.Read receiver argument can.0.0 bases.File None can.0.1 (ap (argument_at store) can.1) tt
  operation_asks operations.Write receiver argument can =
      asked_at operations.Write receiver argument can.0.0 bases.File (Some (NumberLiteral can.1.2.0)) can.0.1
      (is_given store argument can.1.0 (NumberLiteral can.1.2.0) can.1.1 can.1.2.1) tt
  operation_asks operations.Tick receiver argument can =
      asked_at operations.Tick receiver argument can.0.0 bases.Counter None can.0.1 (ap (argument_at store) can.1) tt

-- what asks is not stuck
asks_goes : (outcome : StepOutcome) → AsksADevice outcome → outcome ≢ Stuck
asks_goes (Ask device operation argument resume) asks = ask_goes device operation argument resume
asks_goes Stuck asks = absurd asks
asks_goes Final asks = absurd asks
asks_goes (Next event next) asks = absurd asks

-- SCOPES

scope_more : (label : ℕ) (frame : Frame) (stack : Stack) → HasScope label stack → HasScope label (frame ∷ stack)
scope_more label frame stack has = (frame ∷ has.0, has.1, ap (λ s. frame ∷ s) has.2)

scope_found : (label : ℕ) (stack rest : Stack) → below_scope label stack ≡ Some rest → HasScope label stack
scope_found label [] rest e = cc
scope_found label (LetFrame body ∷ stack) rest e = scope_more label (LetFrame body) stack (scope_found label stack rest e)
scope_found label (RepetitionFrame function begun wanted ∷ stack) rest e =
    scope_more label (RepetitionFrame function begun wanted) stack (scope_found label stack rest e)
scope_found label (ScopeFrame other ∷ stack) rest e =
    at (nat_eq other label) refl e (λ further. scope_found label stack rest further)
  where
    at : (test : Bool) → nat_eq other label ≡ test → cond test (Some stack) (below_scope label stack) ≡ Some rest
        → (below_scope label stack ≡ Some rest → HasScope label stack) → HasScope label (ScopeFrame other ∷ stack)
    at true is here deeper = ([], stack, ap (λ n. ScopeFrame n ∷ stack) (eqb-true other label is))
    at false is here deeper = scope_more label (ScopeFrame other) stack (deeper here)

scope_goes : (label : ℕ) (above below : Stack) → (rest : Stack) × (below_scope label (above ++ ScopeFrame label ∷ below) ≡ Some rest)
scope_goes label [] below = (below, ap (λ t. cond t (Some below) (below_scope label below)) (eq-eqb label label refl))
scope_goes label (LetFrame body ∷ above) below = scope_goes label above below
scope_goes label (RepetitionFrame function begun wanted ∷ above) below = scope_goes label above below
scope_goes label (ScopeFrame other ∷ above) below = at (nat_eq other label) (scope_goes label above below)
  where
    at : (test : Bool) → (rest : Stack) × (below_scope label (above ++ ScopeFrame label ∷ below) ≡ Some rest)
        → (rest : Stack) × (cond test (Some (above ++ ScopeFrame label ∷ below)) (below_scope label (above ++ ScopeFrame label ∷ below)) ≡ Some rest)
    at true deeper = (above ++ ScopeFrame label ∷ below, refl)
    at false deeper = deeper

exit_to_finds : (store : Store) (labels label : ℕ) (value : Var) (o : Option Stack) → exit_to store labels value label o ≢ Stuck → (rest : Stack) × (o ≡ Some rest)
exit_to_finds store labels label value (Some rest) goes = (rest, refl)
exit_to_finds store labels label value None goes = absurd (goes refl)

exit_finds : (store : Store) (stack : Stack) (labels : ℕ) (value : Var) (cell : Option Cell)
    → exit_step store stack labels value cell ≢ Stuck → HoldsExit stack cell
exit_finds store stack labels value (Some (LabelCell label)) goes =
    let found = exit_to_finds store labels label value (below_scope label stack) goes in
    (label, refl, scope_found label stack found.0 found.1)
exit_finds store stack labels value _ goes = absurd (goes refl)

exit_goes : (store : Store) (stack : Stack) (labels : ℕ) (value : Var) (cell : Option Cell)
    → HoldsExit stack cell → exit_step store stack labels value cell ≢ Stuck
exit_goes store stack labels value cell holds =
    let found = scope_goes holds.0 holds.2.0 holds.2.1 in
    subst (λ o. exit_step store stack labels value o ≢ Stuck) (sym holds.1)
    (subst (λ s. exit_to store labels value holds.0 (below_scope holds.0 s) ≢ Stuck) (sym holds.2.2)
    (subst (λ o. exit_to store labels value holds.0 o ≢ Stuck) (sym found.1) (next_goes _ _)))

-- WHAT LOOKS FOR NOTHING

repeat_goes : (store : Store) (stack : Stack) (labels : ℕ) (function : Var) (begun wanted : ℕ)
    → repeat_step store stack labels function begun wanted ≢ Stuck
repeat_goes store stack labels function begun wanted =
    either_goes (nat_eq begun wanted) (going store stack labels (LiteralTerm UnitLiteral))
    (call_with_number store stack labels function (suc begun) wanted begun) (next_goes _ _) (next_goes _ _)

variable_goes : (store : Store) (stack : Stack) (labels : ℕ) (variable : Var) → variable_step store stack labels variable ≢ Stuck
variable_goes store [] labels variable = final_goes
variable_goes store (LetFrame body ∷ stack) labels variable = next_goes _ _
variable_goes store (ScopeFrame label ∷ stack) labels variable = next_goes _ _
variable_goes store (RepetitionFrame function begun wanted ∷ stack) labels variable = repeat_goes store stack labels function begun wanted

value_goes : (store : Store) (stack : Stack) (labels : ℕ) (value : Term) → value_step store stack labels value ≢ Stuck
value_goes store [] labels value = final_goes
value_goes store (LetFrame body ∷ stack) labels value = next_goes _ _
value_goes store (ScopeFrame label ∷ stack) labels value = next_goes _ _
value_goes store (RepetitionFrame function begun wanted ∷ stack) labels value = repeat_goes store stack labels function begun wanted

let_goes : (store : Store) (stack : Stack) (labels : ℕ) (right body : Term) → let_step store stack labels right body ≢ Stuck
let_goes store stack labels (VariableTerm variable) body = next_goes _ _
let_goes store stack labels _ body = next_goes _ _

-- STEPS

finds : (store : Store) (stack : Stack) (labels : ℕ) (term : Term) → step (configured store stack labels term) ≢ Stuck → FindsWhatItNeeds store stack term
finds store stack labels (VariableTerm variable) goes = tt
finds store stack labels (LiteralTerm literal) goes = tt
finds store stack labels (FunctionTerm takes c body) goes = tt
finds store stack labels (TypeFunctionTerm bound body) goes = tt
finds store stack labels (BoxTerm content) goes = tt
finds store stack labels (Application function argument) goes = apply_finds store stack labels argument (cell_at store function) goes
finds store stack labels (TypeApplication function argument) goes = type_apply_finds store stack labels argument (cell_at store function) goes
finds store stack labels (Unboxing set box) goes = unbox_finds store stack labels (cell_at store box) goes
finds store stack labels (Let note right body) goes = tt
finds store stack labels (Primitive operator left right) goes =
    operands_found store stack labels operator (cell_at store left) (cell_at store right) goes
finds store stack labels (Conditional note test positive negative) goes =
    truth_found store stack labels positive negative (cell_at store test) goes
finds store stack labels (Repetition count function) goes = count_found store stack labels function (cell_at store count) goes
finds store stack labels (Operation operation receiver argument) goes = operation_finds store stack labels operation receiver argument goes
finds store stack labels (Boundary gives body) goes = tt
finds store stack labels (Leave gives c exit value) goes = exit_finds store stack labels value (cell_at store exit) goes

goes_on : (store : Store) (stack : Stack) (labels : ℕ) (term : Term) → FindsWhatItNeeds store stack term → step (configured store stack labels term) ≢ Stuck
goes_on store stack labels (VariableTerm variable) found = variable_goes store stack labels variable
goes_on store stack labels (LiteralTerm literal) found = value_goes store stack labels (LiteralTerm literal)
goes_on store stack labels (FunctionTerm takes c body) found = value_goes store stack labels (FunctionTerm takes c body)
goes_on store stack labels (TypeFunctionTerm bound body) found = value_goes store stack labels (TypeFunctionTerm bound body)
goes_on store stack labels (BoxTerm content) found = value_goes store stack labels (BoxTerm content)
goes_on store stack labels (Application function argument) found = apply_goes store stack labels argument (cell_at store function) found
goes_on store stack labels (TypeApplication function argument) found = type_apply_goes store stack labels argument (cell_at store function) found
goes_on store stack labels (Unboxing set box) found = unbox_goes store stack labels (cell_at store box) found
goes_on store stack labels (Let note right body) found = let_goes store stack labels right body
goes_on store stack labels (Primitive operator left right) found =
    primitive_goes store stack labels operator (cell_at store left) (cell_at store right) found
goes_on store stack labels (Conditional note test positive negative) found =
    conditional_goes store stack labels positive negative (cell_at store test) found
goes_on store stack labels (Repetition count function) found = repetition_goes store stack labels function (cell_at store count) found
goes_on store stack labels (Operation operation receiver argument) found =
    asks_goes (operation_step store stack labels operation (cell_at store receiver) (argument_at store argument))
    (operation_asks store stack labels operation receiver argument found)
goes_on store stack labels (Boundary gives body) found = next_goes _ _
goes_on store stack labels (Leave gives c exit value) found = exit_goes store stack labels value (cell_at store exit) found

pub stuck_terms_lack_what_they_need : fitting.StuckTermsLackWhatTheyNeed
stuck_terms_lack_what_they_need store stack labels term = (finds store stack labels term, goes_on store stack labels term)
