-- Inference as the program goes through it: the steps of each form, in their order, where a step that asks something
-- goes on from the log of those before. What stands here is inference again (`InferredLogs`), and serves proofs alone.
use Rattle.std.specs.Prelude.{ℕ, List, ◌∷◌, Option, Some, None}
use Rattle.cc_base.specs.declared.code.Code.TheVariants.{E14}
use Rattle.cc_base.specs.declared.literal.Base.{Base}
use Rattle.cc_base.specs.declared.literal.Base.TheVariants as bases
use Rattle.cc_base.specs.declared.literal.Operator.{Operator}
use Rattle.cc_base.specs.declared.literal.Op.{Op}
use Rattle.cc_base.specs.declared.place.Place.{Place}
use Rattle.cc_base.specs.Literals.{Literal}
use Rattle.cc_capture.specs.declared.var.Var.{Var}
use Rattle.cc_capture.specs.Sets.{Set, empty}
use Rattle.cc_core.specs.Shapes.{Shape, BaseShape, FunctionShape, BoxShape, CapturingType, capturing}
use Rattle.cc_core.specs.Terms.{Note, Absent, Written, Own, Term, VariableTerm, LiteralTerm, FunctionTerm}
use Rattle.cc_core.specs.Terms.{TypeFunctionTerm, BoxTerm, Application, TypeApplication, Unboxing, Let, Primitive}
use Rattle.cc_core.specs.Terms.{Conditional, Repetition, Operation, Boundary, Leave}
use Rattle.cc_core.specs.Contexts.{TypeEntry, Context, entry_of}
use Rattle.cc_core.specs.Substitution.{replaced_type, replaced_type_by_shape}
use Rattle.cc_core.specs.Typing.{base_of, base_given, base_operated, base_taken, base_answered}
use Rattle.cc_core.specs.Places.{Spots, Places, spots, first_part, second_part}
use Rattle.cc_checking.specs.Comparison.{demanded, Comparing, comparison}
use Rattle.cc_checking.specs.Exposing.{exposed}
use Rattle.cc_checking.specs.Outcomes.{Placed, Outcome, NoAnswer, Refused, Found, finds}
use Rattle.cc_checking.specs.Inference.{Result, result, in_context, set_in, shape_in, type_in, written_in, base_type}
use Rattle.cc_checking.specs.Inference.{variable_type, Function, TypeFunction, function_head, type_function_head, box_head}
use Rattle.cc_checking.specs.Inference.{exit_head, device_head, demand_at, below, against, capless, completed_set, Named}
use Rattle.cc_checking.specs.Inference.{named_by, left_behind, Ways, limited, tested, function_found, type_function_found}
use Rattle.cc_checking.specs.Inference.{choice_found, exit_entry}
use Rattle.cc_type.specs.Comparing.{most_steps}
use Rattle.cc_known.specs.Keeping.{with_one}
use Rattle.cc_known.specs.Logs.{Logged, Lost, Stopped, Got, after, followed, plainly}

-- comparisons as the program makes them
abbrev pub comparing : Comparing
comparing = comparison most_steps

-- with types that are not too large
abbrev pub ways : Ways
ways = limited most_steps

-- a step that asks nothing, and then others that ask nothing
abbrev pub directly : {A B : Type 0} → Outcome A → (A → Outcome B) → Outcome B
directly NoAnswer next = NoAnswer
directly (Refused code at) next = Refused code at
directly (Found value asked) next = next value

-- the last steps, which ask nothing
abbrev pub ends : {A : Type 0} → Outcome A → List Placed → Logged A
ends outcome log = plainly outcome (λ value. Got value log)

-- what a head exposes to, by the form that is wanted there
abbrev pub function_at : Context → Place → Var → Outcome Function
function_at context at variable =
    directly (variable_type context (in_context context variable)) λ type.
    function_head at (exposed context type.shape)

-- the same of a type function
abbrev pub type_function_at : Context → Place → Var → Outcome TypeFunction
type_function_at context at variable =
    directly (variable_type context (in_context context variable)) λ type.
    type_function_head at (exposed context type.shape)

-- the same of a box
abbrev pub box_at : Context → Place → Var → Outcome CapturingType
box_at context at variable =
    directly (variable_type context (in_context context variable)) λ type.
    box_head at (exposed context type.shape)

-- the same of an exit
abbrev pub exit_at : Context → Place → Var → Outcome Shape
exit_at context at variable =
    directly (variable_type context (in_context context variable)) λ type.
    exit_head at (exposed context type.shape)

-- the same of a device
abbrev pub device_at : Context → Place → Base → Var → Outcome (Unit {0})
device_at context at base variable =
    directly (variable_type context (in_context context variable)) λ type.
    device_head at base (exposed context type.shape)

-- an operand of a shape
abbrev pub operand_log : Place → Context → Var → Shape → List Placed → Logged (Unit {0})
operand_log at context variable shape log =
    plainly (variable_type context (in_context context variable)) λ type.
    after log (against comparing at context type.shape shape)

-- the argument of an operation
abbrev pub argument_log : Place → Context → Option Base → Option Var → List Placed → Logged (Unit {0})
argument_log at context (Some base) (Some variable) log = operand_log at context variable (BaseShape base) log
argument_log at context (Some base) None log = Stopped E14 at
argument_log at context None (Some variable) log = Stopped E14 at
argument_log at context None None log = Got tt log

-- the set under which a box is opened
abbrev pub opening_log : Place → Context → Set → Option Set → List Placed → Logged Set
opening_log at context content (Some set) log =
    Got (set_in context set) (with_one log (demand_at at (demanded context content (set_in context set))))
opening_log at context content None log = Got content log

-- a type that is written has to be above the one found
abbrev pub written_log : Place → Context → CapturingType → CapturingType → List Placed → Logged CapturingType
written_log at context written type log =
    followed (after log (below comparing at context type (type_in context written))) λ done log.
    Got (type_in context written) log

-- a shape that is written, where the set is omitted, has to be above the one found
abbrev pub own_log : Place → Context → Shape → CapturingType → List Placed → Logged Shape
own_log at context written type log =
    followed (after log (against comparing at context type.shape (shape_in context written))) λ done log.
    Got (shape_in context written) log

-- what is then named: the shape with the set that was found
abbrev pub own_named : ℕ → Context → Shape → CapturingType → Named
own_named root context written type =
    named_by (capturing (shape_in context written) type.set) (Written written (written_in root context type.set))

-- what is written for a type
abbrev pub noted_log : ℕ → Place → Context → Note → CapturingType → List Placed → Logged Named
noted_log root at context Absent type log = Got (named_by type Absent) log
noted_log root at context (Written shape set) type log =
    followed (written_log at context (capturing shape set) type log) λ read log.
    Got (named_by read (Written shape set)) log
noted_log root at context (Own shape) type log =
    followed (own_log at context shape type log) λ read log. Got (own_named root context shape type) log

-- a branch of a choice, by what is written for the choice
abbrev pub branch_log : Place → Context → Note → CapturingType → List Placed → Logged (Unit {0})
branch_log at context Absent type log = Lost
branch_log at context (Written shape set) type log =
    after log (below comparing at context type (type_in context (capturing shape set)))
branch_log at context (Own shape) type log =
    after log (against comparing at context type.shape (shape_in context shape))

-- something has to be written for a choice
abbrev pub has_note : Place → Note → Outcome (Unit {0})
has_note at Absent = Refused E14 at
has_note at (Written shape set) = finds tt
has_note at (Own shape) = finds tt

-- the rows of the forms without parts
abbrev pub variable_row : Context → Var → Place → Outcome Result
variable_row context variable at =
    directly (variable_type context (in_context context variable)) λ type.
    tested ways at (result type (VariableTerm variable))

abbrev pub literal_row : Literal → Place → Outcome Result
literal_row literal at = tested ways at (result (base_type (base_of literal)) (LiteralTerm literal))

abbrev pub box_row : Context → Var → Place → Outcome Result
box_row context content at =
    directly (variable_type context (in_context context content)) λ type.
    tested ways at (result (capturing (BoxShape type.shape type.set) empty) (BoxTerm content))

abbrev pub application_row : Context → Var → Var → Spots → List Placed → Logged Result
application_row context function argument own log =
    plainly (function_at context own.first function) λ head.
    plainly (variable_type context (in_context context argument)) λ given.
    followed (after log (below comparing own.second context given head.takes)) λ done log.
    ends
    (tested ways own.at
    (result (replaced_type (in_context context argument) head.gives) (Application function argument)))
    log

-- what a type function gives for a shape that was read, in a term
abbrev pub type_application_end : Place → Term → Shape → CapturingType → Outcome Result
type_application_end at term read gives = tested ways at (result (replaced_type_by_shape read gives) term)

abbrev pub type_application_row : Context → Var → Shape → Spots → List Placed → Logged Result
type_application_row context function argument own log =
    plainly (type_function_at context own.first function) λ head.
    followed (after log (against comparing own.second context (shape_in context argument) head.bound)) λ done log.
    ends
    (type_application_end own.at (TypeApplication function argument) (shape_in context argument) head.gives)
    log

-- the content of a box that is opened under the set
abbrev pub unboxing_end : ℕ → Context → Place → Option Set → Var → CapturingType → Set → Outcome Result
unboxing_end root context at set box content under =
    tested ways at (result (capturing content.shape under) (Unboxing (completed_set root context under set) box))

abbrev pub unboxing_row : ℕ → Context → Option Set → Var → Spots → List Placed → Logged Result
unboxing_row root context set box own log =
    plainly (box_at context own.first box) λ content.
    followed (opening_log own.first context content.set set log) λ under log.
    followed (after log (capless own.second under)) λ done log.
    ends (unboxing_end root context own.at set box content under) log

abbrev pub primitive_row : Context → Operator → Var → Var → Spots → List Placed → Logged Result
primitive_row context operator left right own log =
    followed (operand_log own.first context left (BaseShape bases.Int) log) λ done log.
    followed (operand_log own.second context right (BaseShape bases.Int) log) λ done log.
    ends (tested ways own.at (result (base_type (base_given operator)) (Primitive operator left right))) log

-- the function of a repetition
abbrev pub repeated_log : Place → Context → Var → List Placed → Logged (Unit {0})
repeated_log at context function log =
    operand_log at context function (FunctionShape (BaseShape bases.Int) empty (BaseShape bases.Unit) empty) log

abbrev pub repetition_row : Context → Var → Var → Spots → List Placed → Logged Result
repetition_row context count function own log =
    followed (operand_log own.first context count (BaseShape bases.Int) log) λ done log.
    followed (repeated_log own.second context function log) λ done log.
    ends (tested ways own.at (result (base_type bases.Unit) (Repetition count function))) log

abbrev pub operation_row : Context → Op → Var → Option Var → Spots → List Placed → Logged Result
operation_row context operation receiver argument own log =
    plainly (device_at context own.first (base_operated operation) receiver) λ done.
    followed (argument_log own.second context (base_taken operation) argument log) λ done log.
    ends
    (tested ways own.at
    (result (base_type (base_answered operation)) (Operation operation receiver argument)))
    log

abbrev pub leave_row : Context → Shape → Set → Var → Var → Spots → List Placed → Logged Result
leave_row context gives c exit value own log =
    plainly (exit_at context own.first exit) λ takes.
    plainly (variable_type context (in_context context value)) λ given.
    followed (after log (below comparing own.second context given (capturing takes empty))) λ done log.
    ends (tested ways own.at (result (type_in context (capturing gives c)) (Leave gives c exit value))) log

-- what a choice has, by what is written for it
abbrev pub choice_result : ℕ → Context → Note → Var → Result → Result → Outcome Result
choice_result root context Absent test one two = NoAnswer
choice_result root context (Written shape set) test one two =
    finds
    (result (type_in context (capturing shape set))
    (Conditional (Written shape set) test one.completed two.completed))
choice_result root context (Own shape) test one two = finds (choice_found root context shape test one two)

-- the last steps of the forms with parts
abbrev pub let_end : Context → Place → Place → Named → Result → Result → Outcome Result
let_end context at named_at named one two =
    directly (left_behind named_at context named.type.set two.type) λ type.
    tested ways at (result type (Let named.note one.completed two.completed))

abbrev pub choice_end : ℕ → Context → Place → Note → Var → Result → Result → Outcome Result
choice_end root context at note test one two =
    directly (choice_result root context note test one two) (tested ways at)

abbrev pub choice_log : ℕ → Context → Place → Note → Var → Result → Result → Place → List Placed → Logged Result
choice_log root context at note test one two part_at log =
    followed (branch_log part_at context note two.type log) λ done log.
    ends (choice_end root context at note test one two) log

-- the first steps of a choice
abbrev pub test_log : Spots → Context → Note → Var → List Placed → Logged (Unit {0})
test_log own context note test log =
    plainly (has_note own.at note) λ done. operand_log own.first context test (BaseShape bases.Bool) log

-- the body of a boundary, compared with what the boundary gives, which is then the type
abbrev pub boundary_log : Place → Context → CapturingType → Shape → List Placed → Logged CapturingType
boundary_log at inner type gives log =
    followed (after log (below comparing at inner type (capturing gives empty))) λ done log.
    Got (capturing gives empty) log

-- inference of a term, where this is in the log before
abbrev pub inferred_log : ℕ → Context → Term → Places → List Placed → Logged Result
inferred_log root context (VariableTerm variable) places log = ends
    (variable_row context variable (spots places).at) log
inferred_log root context (LiteralTerm literal) places log = ends (literal_row literal (spots places).at) log
inferred_log root context (FunctionTerm takes c body) places log =
    followed
    (inferred_log root (entry_of (type_in context (capturing takes c)) ∷ context) body (first_part places) log)
    λ part log.
    ends (tested ways (spots places).at (function_found context takes c part)) log
inferred_log root context (TypeFunctionTerm bound body) places log =
    followed (inferred_log root (TypeEntry (shape_in context bound) ∷ context) body (first_part places) log) λ part log.
    ends (tested ways (spots places).at (type_function_found context bound part)) log
inferred_log root context (BoxTerm content) places log = ends (box_row context content (spots places).at) log
inferred_log root context (Application function argument) places log =
    application_row context function argument (spots places) log
inferred_log root context (TypeApplication function argument) places log =
    type_application_row context function argument (spots places) log
inferred_log root context (Unboxing set box) places log = unboxing_row root context set box (spots places) log
inferred_log root context (Let note right body) places log =
    followed (inferred_log root context right (first_part places) log) λ one log.
    followed (noted_log root (spots (first_part places)).at context note one.type log) λ named log.
    followed (inferred_log root (entry_of named.type ∷ context) body (second_part places) log) λ two log.
    ends (let_end context (spots places).at (spots places).first named one two) log
inferred_log root context (Primitive operator left right) places log =
    primitive_row context operator left right (spots places) log
inferred_log root context (Conditional note test positive negative) places log =
    followed (test_log (spots places) context note test log) λ done log.
    followed (inferred_log root context positive (first_part places) log) λ one log.
    followed (branch_log (spots (first_part places)).at context note one.type log) λ done log.
    followed (inferred_log root context negative (second_part places) log) λ two log.
    choice_log root context (spots places).at note test one two (spots (second_part places)).at log
inferred_log root context (Repetition count function) places log = repetition_row context count function
    (spots places) log
inferred_log root context (Operation operation receiver argument) places log =
    operation_row context operation receiver argument (spots places) log
inferred_log root context (Boundary gives body) places log =
    followed (inferred_log root (exit_entry (shape_in context gives) ∷ context) body (first_part places) log)
    λ part log.
    followed
    (boundary_log (spots (first_part places)).at (exit_entry (shape_in context gives) ∷ context) part.type
    (shape_in context gives) log)
    λ whole log.
    ends (tested ways (spots places).at (result whole (Boundary gives part.completed))) log
inferred_log root context (Leave gives c exit value) places log = leave_row context gives c exit value
    (spots places) log
