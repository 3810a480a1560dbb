-- Configurations that differ at most in the types and shapes written in terms. The sets of unboxings count.
use Rattle.std.specs.Prelude.{◌≡◌, ℕ, map}
use Rattle.cc_capture.specs.Sets.{empty}
use Rattle.cc_core.specs.Shapes.{AnyShape}
use Rattle.cc_base.specs.Literals.{Literal}
use Rattle.cc_core.specs.Terms.{Absent, Term, VariableTerm, LiteralTerm, FunctionTerm, TypeFunctionTerm, BoxTerm}
use Rattle.cc_core.specs.Terms.{Application, TypeApplication, Unboxing, Let, Primitive, Conditional, Repetition}
use Rattle.cc_core.specs.Terms.{Operation, Boundary, Leave}
use Rattle.cc_core.specs.Stores.{Cell, ValueCell, DeviceCell, LabelCell}
use Rattle.cc_runs.specs.Machine.{Frame, LetFrame, ScopeFrame, RepetitionFrame, Configuration, configured, StepOutcome}
use Rattle.cc_runs.specs.Machine.{Stuck, Final, Next, Ask, step}
use Rattle.cc_runs.specs.Answers.{shown}
use Rattle.cc_runs.specs.Reach.{captured_set}
use Rattle.cc_runs.specs.Runs.{State, Run, run}

-- the term without what is written for types and shapes
abbrev pub erased : Term → Term
erased (VariableTerm variable) = VariableTerm variable
erased (LiteralTerm literal) = LiteralTerm literal
erased (FunctionTerm takes c body) = FunctionTerm AnyShape empty (erased body)
erased (TypeFunctionTerm bound body) = TypeFunctionTerm AnyShape (erased body)
erased (BoxTerm content) = BoxTerm content
erased (Application function argument) = Application function argument
erased (TypeApplication function argument) = TypeApplication function AnyShape
erased (Unboxing set box) = Unboxing set box
erased (Let note right body) = Let Absent (erased right) (erased body)
erased (Primitive operator left right) = Primitive operator left right
erased (Conditional note test positive negative) = Conditional Absent test (erased positive) (erased negative)
erased (Repetition count function) = Repetition count function
erased (Operation operation receiver argument) = Operation operation receiver argument
erased (Boundary gives body) = Boundary AnyShape (erased body)
erased (Leave gives c exit value) = Leave AnyShape empty exit value

-- the same in a cell
abbrev pub erased_cell : Cell → Cell
erased_cell (ValueCell value) = ValueCell (erased value)
erased_cell (DeviceCell device base) = DeviceCell device base
erased_cell (LabelCell label) = LabelCell label

-- the same in a frame
abbrev pub erased_frame : Frame → Frame
erased_frame (LetFrame body) = LetFrame (erased body)
erased_frame (ScopeFrame label) = ScopeFrame label
erased_frame (RepetitionFrame function begun wanted) = RepetitionFrame function begun wanted

-- the same everywhere in a configuration
abbrev pub erased_configuration : Configuration → Configuration
erased_configuration configuration =
    configured (map erased_cell configuration.store) (map erased_frame configuration.stack) configuration.labels_made
    (erased configuration.term)

-- the configurations are one but for types and shapes that are written
abbrev pub IsAlike : Configuration → Configuration → Type 0
IsAlike left right = erased_configuration left ≡ erased_configuration right

-- outcomes of one kind, with one event or question and alike configurations after it
abbrev pub AreAlike : StepOutcome → StepOutcome → Type 0
AreAlike Stuck Stuck = Unit {0}
AreAlike Final Final = Unit {0}
AreAlike (Next event next) (Next event' next') = (event ≡ event') × IsAlike next next'
AreAlike (Ask device operation argument resume) (Ask device' operation' argument' resume') =
    (device ≡ device') × (operation ≡ operation') × (argument ≡ argument')
    × ((answer : Literal) → IsAlike (resume answer) (resume' answer))
AreAlike _ _ = ⊥

-- alike configurations capture the same
abbrev pub AlikeCaptureTheSame : Type 0
AlikeCaptureTheSame = (left right : Configuration) → IsAlike left right → captured_set left ≡ captured_set right

-- what comes of alike configurations is alike
abbrev pub AlikeStepAlike : Type 0
AlikeStepAlike = (left right : Configuration) → IsAlike left right → AreAlike (step left) (step right)

-- states of alike configurations with the same devices
abbrev pub AreAlikeStates : State → State → Type 0
AreAlikeStates left right = IsAlike left.configuration right.configuration × (left.devices ≡ right.devices)

-- runs with the same events, the same end, which shows the same, and as many steps, to alike states
pub record AreAlikeRuns (left right : Run) : Type 0 where
  pub events : left.events ≡ right.events
  pub ending : left.ending ≡ right.ending
  pub steps : left.steps ≡ right.steps
  pub last : AreAlikeStates left.last right.last

-- alike configurations show the same
abbrev pub AlikeShowTheSame : Type 0
AlikeShowTheSame = (left right : Configuration) → IsAlike left right → shown left ≡ shown right

-- alike states have alike runs
abbrev pub AlikeRunAlike : Type 0
AlikeRunAlike =
    (fuel : ℕ) (left right : State) → AreAlikeStates left right → AreAlikeRuns (run fuel left) (run fuel right)
