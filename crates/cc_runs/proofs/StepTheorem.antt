-- Each step of a sound configuration is sound.
use Rattle.std.proofs.Common.{ℕ, refl}
use Rattle.cc_capture.specs.Sets.{Set}
use Rattle.cc_core.specs.Shapes.{Shape}
use Rattle.cc_core.specs.Terms.{Term, VariableTerm, LiteralTerm, FunctionTerm, TypeFunctionTerm, BoxTerm, Application, TypeApplication, Unboxing, Let, Primitive, Conditional, Repetition, Operation, Boundary, Leave}
use Rattle.cc_core.specs.Contexts.{Context}
use Rattle.cc_core.specs.Stores.{Store}
use Rattle.cc_runs.specs.Machine.{Stack, configured, term_step, step}
use Rattle.cc_runs.specs.Soundness.{StepsAreSound}
use Rattle.cc_typing_laws.proofs.InternalTyping.{Typed}
use Rattle.cc_runs.proofs.Invariant.{Around, OkOutcome, ok_from, sound_outcome}
use Rattle.cc_runs.proofs.AnswerRows.{variable_row, value_row}
use Rattle.cc_runs.proofs.TermRows.{let_row, apply_row, type_apply_row, unbox_row, primitive_row, conditional_row, repetition_row}
use Rattle.cc_runs.proofs.ScopeRows.{operation_row, boundary_row, leave_row}

rows : (st : Store) (stack : Stack) (made : ℕ) (t : Term) (g : Context) (s : Shape) (c : Set) → Around st stack made t g s c → Typed g t s c → OkOutcome (configured st stack made t) (term_step st stack made t)
rows st stack made (VariableTerm v) g s c around typed = variable_row st stack made v g s c around typed
rows st stack made (LiteralTerm l) g s c around typed = value_row st stack made (LiteralTerm l) g s c refl around typed
rows st stack made (FunctionTerm t d b) g s c around typed = value_row st stack made (FunctionTerm t d b) g s c refl around typed
rows st stack made (TypeFunctionTerm t b) g s c around typed = value_row st stack made (TypeFunctionTerm t b) g s c refl around typed
rows st stack made (BoxTerm v) g s c around typed = value_row st stack made (BoxTerm v) g s c refl around typed
rows st stack made (Application f a) g s c around typed = apply_row st stack made f a g s c around typed
rows st stack made (TypeApplication f r) g s c around typed = type_apply_row st stack made f r g s c around typed
rows st stack made (Unboxing o b) g s c around typed = unbox_row st stack made o b g s c around typed
rows st stack made (Let n r b) g s c around typed = let_row st stack made n r b g s c around typed
rows st stack made (Primitive p v w) g s c around typed = primitive_row st stack made p v w g s c around typed
rows st stack made (Conditional n v t u) g s c around typed = conditional_row st stack made n v t u g s c around typed
rows st stack made (Repetition n f) g s c around typed = repetition_row st stack made n f g s c around typed
rows st stack made (Operation op r o) g s c around typed = operation_row st stack made op r o g s c around typed
rows st stack made (Boundary t b) g s c around typed = boundary_row st stack made t b g s c around typed
rows st stack made (Leave t d x v) g s c around typed = leave_row st stack made t d x v g s c around typed

pub steps_are_sound : StepsAreSound
steps_are_sound configuration sound =
    let ok = ok_from configuration sound in
    sound_outcome configuration (step configuration) (rows configuration.store configuration.stack configuration.labels_made configuration.term ok.context ok.shape ok.set ok.around ok.typed)
