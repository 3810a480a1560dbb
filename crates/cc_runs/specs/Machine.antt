-- The machine: how a term runs, step by step, on a store and a stack of frames.
use Rattle.std.specs.Prelude.{ℕ, zero, suc, ℤ, pos, negsuc, ◌+ℤ◌, ◌-ℤ◌, ◌*ℤ◌, int_lt, Bool, true, false, ◌&&◌, nat_eq}
use Rattle.std.specs.Prelude.{List, [], ◌∷◌, length, Option, Some, None, if◌then◌else◌}
use Rattle.std.specs.Option.{option_map}
use Rattle.std.specs.Int.{w64, int_wrap}
use Rattle.std.specs.Ordering.{int_eq}
use Rattle.cc_base.specs.declared.literal.Base.{Base}
use Rattle.cc_base.specs.declared.literal.Operator.{Operator}
use Rattle.cc_base.specs.declared.literal.Operator.TheVariants as operators
use Rattle.cc_base.specs.declared.literal.Op.{Op}
use Rattle.cc_capture.specs.declared.var.Var.{Var}
use Rattle.cc_capture.specs.declared.var.Var.TheVariants.{Free}
use Rattle.cc_core.specs.Shapes.{Shape}
use Rattle.cc_base.specs.Literals.{Literal, UnitLiteral, TruthLiteral, NumberLiteral}
use Rattle.cc_core.specs.Terms.{Term, VariableTerm, LiteralTerm, FunctionTerm, TypeFunctionTerm, BoxTerm, Application}
use Rattle.cc_core.specs.Terms.{TypeApplication, Unboxing, Let, Primitive, Conditional, Repetition, Operation, Boundary}
use Rattle.cc_core.specs.Terms.{Leave}
use Rattle.cc_core.specs.Traversal.{act_term}
use Rattle.cc_core.specs.Substitution.{putting, putting_shape, opened_term}
use Rattle.cc_core.specs.Captured.{is_value}
use Rattle.cc_core.specs.Equality.{base_number}
use Rattle.cc_core.specs.Typing.{base_of, base_operated, base_taken}
use Rattle.cc_core.specs.Stores.{Cell, ValueCell, DeviceCell, LabelCell, Store, cell_at}
use Rattle.cc_device.specs.Events.{Event, Entered, Ended, Exited}

-- What waits for an answer: the body of a let, whose variable it becomes; a boundary, which it leaves; or a repetition
-- of a function, of which so many calls have begun and so many are wanted.
pub data Frame : Type 0 where
  LetFrame : (body : Term) → Frame
  ScopeFrame : (label : ℕ) → Frame
  RepetitionFrame : (function : Var) (begun wanted : ℕ) → Frame

-- a stack is the list of its frames, the top one first
abbrev pub Stack : Type 0
Stack = List Frame

-- a state of the machine apart from the devices: the variables of its terms are positions of the store
pub record Configuration : Type 0 where
  pub store : Store
  pub stack : Stack
  pub labels_made : ℕ
  pub term : Term

-- What comes of a configuration: it is stuck or final, or it has a next one, with an event or without; or it asks a
-- device and goes on with the answer.
pub data StepOutcome : Type 0 where
  Stuck : StepOutcome
  Final : StepOutcome
  Next : (event : Option Event) (next : Configuration) → StepOutcome
  Ask : (device : ℕ) (operation : Op) (argument : Option Literal) (resume : Literal → Configuration) → StepOutcome

-- the configuration of these parts
abbrev pub configured : Store → Stack → ℕ → Term → Configuration
configured store stack labels term = record { store = store; stack = stack; labels_made = labels; term = term }

-- the next configuration, without an event
abbrev pub going : Store → Stack → ℕ → Term → StepOutcome
going store stack labels term = Next None (configured store stack labels term)

-- the body of a binder with the variable
abbrev pub put_in : Var → Term → Term
put_in variable body = act_term (putting variable) zero body

-- a new cell has the value, and the body goes on with its position
abbrev pub bound_to_new : Store → Stack → ℕ → Term → Term → StepOutcome
bound_to_new store stack labels value body =
    going (ValueCell value ∷ store) stack labels (opened_term (length store) body)

-- a let of a variable or of a value goes on with its body, and any other waits for its right side
abbrev pub let_step : Store → Stack → ℕ → Term → Term → StepOutcome
let_step store stack labels (VariableTerm variable) body = going store stack labels (put_in variable body)
let_step store stack labels right body =
    if is_value right
    then bound_to_new store stack labels right body
    else going store (LetFrame body ∷ stack) labels right

-- a function in the cell goes on with its body, which has the argument
abbrev pub apply_step : Store → Stack → ℕ → Var → Option Cell → StepOutcome
apply_step store stack labels argument (Some (ValueCell (FunctionTerm takes c body))) =
    going store stack labels (put_in argument body)
apply_step store stack labels argument _ = Stuck

-- a type function in the cell goes on with its body, which has the shape
abbrev pub type_apply_step : Store → Stack → ℕ → Shape → Option Cell → StepOutcome
type_apply_step store stack labels argument (Some (ValueCell (TypeFunctionTerm bound body))) =
    going store stack labels (act_term (putting_shape argument) zero body)
type_apply_step store stack labels argument _ = Stuck

-- a box in the cell goes on with its content
abbrev pub unbox_step : Store → Stack → ℕ → Option Cell → StepOutcome
unbox_step store stack labels (Some (ValueCell (BoxTerm content))) = going store stack labels (VariableTerm content)
unbox_step store stack labels _ = Stuck

-- the literal in a cell
abbrev pub literal_in : Option Cell → Option Literal
literal_in (Some (ValueCell (LiteralTerm literal))) = Some literal
literal_in _ = None

-- what an operator gives; the results of the first three wrap
abbrev pub result_of : Operator → ℤ → ℤ → Literal
result_of operators.Add left right = NumberLiteral (int_wrap w64 (left +ℤ right))
result_of operators.Sub left right = NumberLiteral (int_wrap w64 (left -ℤ right))
result_of operators.Mul left right = NumberLiteral (int_wrap w64 (left *ℤ right))
result_of operators.Less left right = TruthLiteral (int_lt left right)
result_of operators.Equal left right = TruthLiteral (int_eq left right)

-- two numbers give the operator's result
abbrev pub primitive_step : Store → Stack → ℕ → Operator → Option Literal → Option Literal → StepOutcome
primitive_step store stack labels operator (Some (NumberLiteral left)) (Some (NumberLiteral right)) =
    going store stack labels (LiteralTerm (result_of operator left right))
primitive_step store stack labels operator _ _ = Stuck

-- a truth value chooses the branch: a true one the first
abbrev pub conditional_step : Store → Stack → ℕ → Term → Term → Option Literal → StepOutcome
conditional_step store stack labels positive negative (Some (TruthLiteral truth)) =
    going store stack labels (if truth then positive else negative)
conditional_step store stack labels positive negative _ = Stuck

-- a new cell has the number, and the function is called with it, as a frame keeps count
abbrev pub call_with_number : Store → Stack → ℕ → Var → ℕ → ℕ → ℕ → StepOutcome
call_with_number store stack labels function begun wanted number =
    going (ValueCell (LiteralTerm (NumberLiteral (pos number))) ∷ store)
    (RepetitionFrame function begun wanted ∷ stack) labels
    (Application function (Free (length store)))

-- a repetition calls its function first with 0, and not at all where the count is 0 or negative
abbrev pub repetition_step : Store → Stack → ℕ → Var → Option Literal → StepOutcome
repetition_step store stack labels function (Some (NumberLiteral (pos zero))) =
    going store stack labels (LiteralTerm UnitLiteral)
repetition_step store stack labels function (Some (NumberLiteral (pos (suc fewer)))) =
    call_with_number store stack labels function 1 (suc fewer) 0
repetition_step store stack labels function (Some (NumberLiteral (negsuc count))) =
    going store stack labels (LiteralTerm UnitLiteral)
repetition_step store stack labels function _ = Stuck

-- after a call of a repetition: the next call, or its end
abbrev pub repeat_step : Store → Stack → ℕ → Var → ℕ → ℕ → StepOutcome
repeat_step store stack labels function begun wanted =
    if nat_eq begun wanted
    then going store stack labels (LiteralTerm UnitLiteral)
    else call_with_number store stack labels function (suc begun) wanted begun

-- whether two base shapes are one
abbrev pub same_base : Base → Base → Bool
same_base left right = nat_eq (base_number left) (base_number right)

-- whether the literal is what an operation takes
abbrev pub is_taken : Option Base → Option Literal → Bool
is_taken None None = true
is_taken None (Some literal) = false
is_taken (Some base) None = false
is_taken (Some base) (Some literal) = same_base base (base_of literal)

-- the literal of an argument that a variable stands for, if there is one; none where the variable stands for no literal
abbrev pub argument_at : Store → Option Var → Option (Option Literal)
argument_at store None = Some None
argument_at store (Some variable) = option_map (λ literal. Some literal) (literal_in (cell_at store variable))

-- a device that fits is asked for its answer
abbrev pub operation_step : Store → Stack → ℕ → Op → Option Cell → Option (Option Literal) → StepOutcome
operation_step store stack labels operation (Some (DeviceCell device base)) (Some argument) =
    if same_base base (base_operated operation) && is_taken (base_taken operation) argument
    then Ask device operation argument (λ answer. configured store stack labels (LiteralTerm answer))
    else Stuck
operation_step store stack labels operation _ _ = Stuck

-- the stack below the topmost scope of the label, if it has one
abbrev pub below_scope : ℕ → Stack → Option Stack
below_scope label [] = None
below_scope label (ScopeFrame other ∷ stack) = if nat_eq other label then Some stack else below_scope label stack
below_scope label (LetFrame body ∷ stack) = below_scope label stack
below_scope label (RepetitionFrame function begun wanted ∷ stack) = below_scope label stack

-- the exit goes on with its value on the stack below its scope, if that stands
abbrev pub exit_to : Store → ℕ → Var → ℕ → Option Stack → StepOutcome
exit_to store labels value label (Some stack) =
    Next (Some (Exited label)) (configured store stack labels (VariableTerm value))
exit_to store labels value label None = Stuck

-- an exit pops the frames down to the scope of its label, and that one too
abbrev pub exit_step : Store → Stack → ℕ → Var → Option Cell → StepOutcome
exit_step store stack labels value (Some (LabelCell label)) = exit_to store labels value label (below_scope label stack)
exit_step store stack labels value _ = Stuck

-- a boundary has a new label, which its body is given
abbrev pub boundary_step : Store → Stack → ℕ → Term → StepOutcome
boundary_step store stack labels body =
    Next (Some (Entered labels))
    (configured (LabelCell labels ∷ store) (ScopeFrame labels ∷ stack) (suc labels) (opened_term (length store) body))

-- what a variable that is an answer does to the top frame
abbrev pub variable_step : Store → Stack → ℕ → Var → StepOutcome
variable_step store [] labels variable = Final
variable_step store (LetFrame body ∷ stack) labels variable = going store stack labels (put_in variable body)
variable_step store (ScopeFrame label ∷ stack) labels variable =
    Next (Some (Ended label)) (configured store stack labels (VariableTerm variable))
variable_step store (RepetitionFrame function begun wanted ∷ stack) labels variable =
    repeat_step store stack labels function begun wanted

-- what a value that is an answer does to the top frame
abbrev pub value_step : Store → Stack → ℕ → Term → StepOutcome
value_step store [] labels value = Final
value_step store (LetFrame body ∷ stack) labels value = bound_to_new store stack labels value body
value_step store (ScopeFrame label ∷ stack) labels value =
    Next (Some (Ended label)) (configured store stack labels value)
value_step store (RepetitionFrame function begun wanted ∷ stack) labels value =
    repeat_step store stack labels function begun wanted

-- one step, by the term; each line that has no answer here is stuck
abbrev pub term_step : Store → Stack → ℕ → Term → StepOutcome
term_step store stack labels (VariableTerm variable) = variable_step store stack labels variable
term_step store stack labels (LiteralTerm literal) = value_step store stack labels (LiteralTerm literal)
term_step store stack labels (FunctionTerm takes c body) = value_step store stack labels (FunctionTerm takes c body)
term_step store stack labels (TypeFunctionTerm bound body) = value_step store stack labels (TypeFunctionTerm bound body)
term_step store stack labels (BoxTerm content) = value_step store stack labels (BoxTerm content)
term_step store stack labels (Application function argument) =
    apply_step store stack labels argument (cell_at store function)
term_step store stack labels (TypeApplication function argument) =
    type_apply_step store stack labels argument (cell_at store function)
term_step store stack labels (Unboxing set box) = unbox_step store stack labels (cell_at store box)
term_step store stack labels (Let note right body) = let_step store stack labels right body
term_step store stack labels (Primitive operator left right) =
    primitive_step store stack labels operator (literal_in (cell_at store left)) (literal_in (cell_at store right))
term_step store stack labels (Conditional note test positive negative) =
    conditional_step store stack labels positive negative (literal_in (cell_at store test))
term_step store stack labels (Repetition count function) =
    repetition_step store stack labels function (literal_in (cell_at store count))
term_step store stack labels (Operation operation receiver argument) =
    operation_step store stack labels operation (cell_at store receiver) (argument_at store argument)
term_step store stack labels (Boundary gives body) = boundary_step store stack labels body
term_step store stack labels (Leave gives c exit value) = exit_step store stack labels value (cell_at store exit)

-- One step of the machine. No annotation of a term decides it.
abbrev pub step : Configuration → StepOutcome
step configuration = term_step configuration.store configuration.stack configuration.labels_made configuration.term
