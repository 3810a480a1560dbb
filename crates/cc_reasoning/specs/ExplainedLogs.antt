-- Inference that tells why it refuses, as the program goes through it, where a step that asks something goes on from the
-- log of those before. What stands here is explained inference again, and serves proofs alone.
use Rattle.std.specs.Prelude.{ℕ, List, length, Option, Some, None}
use Rattle.cc_base.specs.declared.code.Code.{Code}
use Rattle.cc_base.specs.declared.code.Code.TheVariants.{E14}
use Rattle.cc_base.specs.declared.literal.Base.TheVariants as bases
use Rattle.cc_base.specs.declared.place.Place.{Place}
use Rattle.cc_capture.specs.declared.var.Var.{Var}
use Rattle.cc_capture.specs.Sets.{Set, empty, union}
use Rattle.cc_core.specs.Shapes.{BaseShape, AnyShape, CapturingType, capturing}
use Rattle.cc_core.specs.Terms.{Note, Absent, Written, Own, Term, VariableTerm, LiteralTerm, FunctionTerm}
use Rattle.cc_core.specs.Terms.{TypeFunctionTerm, BoxTerm, Application, TypeApplication, Unboxing, Let, Primitive}
use Rattle.cc_core.specs.Terms.{Conditional, Repetition, Operation, Boundary, Leave}
use Rattle.cc_core.specs.Contexts.{TypeEntry, Context, entry_of}
use Rattle.cc_core.specs.Places.{Spots, Places, spots, first_part, second_part}
use Rattle.cc_checking.specs.Inference.{Result, result, shape_in, type_in, Named, tested, function_found}
use Rattle.cc_checking.specs.Inference.{type_function_found, choice_found, exit_entry}
use Rattle.cc_type.specs.Rows.{ways}
use Rattle.cc_reasons.specs.Causes.{Located, Scene, under, Cause, WrongType, WrongShape, NothingThere, TooLarge, Unavoidable, Explained, NoAnswer, Refused, because}
use Rattle.cc_reasons.specs.ExplainedInference.{BinderNames, first_names, second_names, bound_at, explained_below}
use Rattle.cc_reasons.specs.ExplainedInference.{explained_against, explained_operand, explained_note, explained_leaving}
use Rattle.cc_reasons.specs.ExplainedInference.{explained}
use Rattle.cc_reasoning.specs.LocatedLogs.{Reached, after, followed, ends, directly}

-- the test of the size of what is found
abbrev pub sized : Scene → Place → Result → Explained Result
sized scene at found = because (TooLarge scene found.type) scene.locals (tested ways at found)

-- the last steps of a let
abbrev pub let_end : Scene → Place → Place → BinderNames → Named → Result → Result → Explained Result
let_end scene at named_at names named one two =
    directly
    (explained_leaving named_at scene (under (bound_at names named_at) (entry_of named.type) scene) named.type.set two.type)
    λ type.
    sized scene at (result type (Let named.note one.completed two.completed))

-- a branch of a choice, by what is written for the choice
abbrev pub branch : Place → Scene → Note → CapturingType → Explained (Unit {0})
branch at scene Absent type = NoAnswer
branch at scene (Written shape set) type = explained_below ways at scene type (type_in scene.context (capturing shape set))
branch at scene (Own shape) type = explained_against ways at scene type.shape (shape_in scene.context shape)

-- why a type does not match what is written for it
abbrev pub note_cause : Scene → Note → CapturingType → Cause
note_cause scene Absent type = NothingThere
note_cause scene (Written shape set) type = WrongType scene type (type_in scene.context (capturing shape set))
note_cause scene (Own shape) type = WrongShape scene type.shape (shape_in scene.context shape)

-- the first steps of a choice
abbrev pub test : Spots → Scene → Note → Var → Explained (Unit {0})
test own scene Absent variable = Refused NothingThere own.at
test own scene (Written shape set) variable = explained_operand ways own.first scene variable (BaseShape bases.Bool)
test own scene (Own shape) variable = explained_operand ways own.first scene variable (BaseShape bases.Bool)

-- the last steps of a choice
abbrev pub choice_end : ℕ → Scene → Place → Note → Var → Result → Result → Explained Result
choice_end root scene at Absent variable one two = NoAnswer
choice_end root scene at (Written shape set) variable one two =
    sized scene at
    (result (type_in scene.context (capturing shape set))
    (Conditional (Written shape set) variable one.completed two.completed))
choice_end root scene at (Own shape) variable one two =
    sized scene at (choice_found root scene.context shape variable one two)

-- the same with the comparison of the second branch before it
abbrev pub choice_log :
    ℕ → Scene → Place → Note → Var → Result → Result → Place → List Located → Reached Result
choice_log root scene at note variable one two part_at log =
    followed (after log (branch part_at scene note two.type)) λ done log.
    ends (choice_end root scene at note variable one two) log

-- why a let is refused at its end, by what is left of the type where the variable is avoided
abbrev pub let_cause : Option CapturingType → Scene → Scene → CapturingType → Cause
let_cause (Some left) scene inner type = TooLarge scene left
let_cause None scene inner type = Unavoidable inner (length scene.context) type

-- the type of a choice, by what is written for it and by the sets of its branches
abbrev pub choice_type : Context → Note → Set → Set → CapturingType
choice_type context Absent one two = capturing AnyShape one
choice_type context (Written shape set) one two = type_in context (capturing shape set)
choice_type context (Own shape) one two = capturing (shape_in context shape) (union one two)

-- why a choice is refused at its end, by the code
abbrev pub choice_cause : Code → Scene → Note → Set → CapturingType → Cause
choice_cause E14 scene note one type = note_cause scene note type
choice_cause _ scene note one type = TooLarge scene (choice_type scene.context note one type.set)

-- inference of a term at a place of the scene, where this is in the log before
abbrev pub explained_log : ℕ → Scene → Term → Places → BinderNames → List Located → Reached Result
explained_log root scene (VariableTerm variable) places names log =
    after log (explained ways root scene (VariableTerm variable) places names)
explained_log root scene (LiteralTerm literal) places names log =
    after log (explained ways root scene (LiteralTerm literal) places names)
explained_log root scene (FunctionTerm takes c body) places names log =
    followed
    (explained_log root
    (under (bound_at names (spots places).at) (entry_of (type_in scene.context (capturing takes c))) scene) body
    (first_part places) (first_names names) log)
    λ part log.
    ends (sized scene (spots places).at (function_found scene.context takes c part)) log
explained_log root scene (TypeFunctionTerm bound body) places names log =
    followed
    (explained_log root
    (under (bound_at names (spots places).at) (TypeEntry (shape_in scene.context bound)) scene) body
    (first_part places) (first_names names) log)
    λ part log.
    ends (sized scene (spots places).at (type_function_found scene.context bound part)) log
explained_log root scene (BoxTerm content) places names log =
    after log (explained ways root scene (BoxTerm content) places names)
explained_log root scene (Application function argument) places names log =
    after log (explained ways root scene (Application function argument) places names)
explained_log root scene (TypeApplication function argument) places names log =
    after log (explained ways root scene (TypeApplication function argument) places names)
explained_log root scene (Unboxing set box) places names log =
    after log (explained ways root scene (Unboxing set box) places names)
explained_log root scene (Let note right body) places names log =
    followed (explained_log root scene right (first_part places) (first_names names) log) λ one log.
    followed (after log (explained_note ways root (spots (first_part places)).at scene note one.type)) λ named log.
    followed
    (explained_log root (under (bound_at names (spots places).first) (entry_of named.type) scene) body
    (second_part places) (second_names names) log)
    λ two log.
    ends (let_end scene (spots places).at (spots places).first names named one two) log
explained_log root scene (Primitive operator left right) places names log =
    after log (explained ways root scene (Primitive operator left right) places names)
explained_log root scene (Conditional note variable positive negative) places names log =
    followed (after log (test (spots places) scene note variable)) λ done log.
    followed (explained_log root scene positive (first_part places) (first_names names) log) λ one log.
    followed (after log (branch (spots (first_part places)).at scene note one.type)) λ done log.
    followed (explained_log root scene negative (second_part places) (second_names names) log) λ two log.
    choice_log root scene (spots places).at note variable one two (spots (second_part places)).at log
explained_log root scene (Repetition count function) places names log =
    after log (explained ways root scene (Repetition count function) places names)
explained_log root scene (Operation operation receiver argument) places names log =
    after log (explained ways root scene (Operation operation receiver argument) places names)
explained_log root scene (Boundary gives body) places names log =
    followed
    (explained_log root (under (bound_at names (spots places).at) (exit_entry (shape_in scene.context gives)) scene) body
    (first_part places) (first_names names) log)
    λ part log.
    followed
    (after log
    (explained_below ways (spots (first_part places)).at
    (under (bound_at names (spots places).at) (exit_entry (shape_in scene.context gives)) scene) part.type
    (capturing (shape_in scene.context gives) empty)))
    λ done log.
    ends
    (sized scene (spots places).at
    (result (capturing (shape_in scene.context gives) empty) (Boundary gives part.completed)))
    log
explained_log root scene (Leave gives c exit value) places names log =
    after log (explained ways root scene (Leave gives c exit value) places names)
