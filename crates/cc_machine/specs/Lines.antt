-- What a line of the step table says of the parts before and after a step.
use Rattle.std.specs.Prelude.{◌≡◌, ℕ, ℤ, List, Bool, Option, Some, None}
use Rattle.cc_base.specs.Literals.{Literal, TruthLiteral, NumberLiteral, TextLiteral}
use Rattle.cc_core.specs.Terms.{Term, Operation}
use Rattle.cc_core.specs.Stores.{Store}
use Rattle.cc_device.specs.Calls.{TakesNoMemory}
use Rattle.cc_device.specs.Devices.{Devices}
use Rattle.cc_device.specs.Events.{Event}
use Rattle.cc_runs.specs.Machine.{Stack, Configuration, StepOutcome, Stuck, Final, Next, Ask}
use Rattle.cc_runs.specs.Runs.{State, Move, IsStuck, IsFinal, Moves}
use Rattle.cc_machine.specs.declared.parts.Parts.{Parts}
use Rattle.cc_machine.specs.Parts.{configuration_of, IsLinked, UsesOne}

-- Where the outcome goes on without a device, it does so with the event and the configuration. Nothing is said where it
-- is stuck or final.
abbrev pub GoesAs : StepOutcome → Option Event → Configuration → Type 0
GoesAs Stuck event after = Unit {0}
GoesAs Final event after = Unit {0}
GoesAs (Next event' next) event after = (event' ≡ event) × (next ≡ after)
GoesAs (Ask device operation argument resume) event after = ⊥

-- what a line of the table gives for what the parts stand for
abbrev pub on : Parts → (Store → Stack → ℕ → StepOutcome) → StepOutcome
on parts line =
    line (configuration_of parts).store (configuration_of parts).stack (configuration_of parts).labels_made

-- The parts go on as the outcome does. Their environments are as they should be, and the room for one step is used.
pub record Goes (outcome : StepOutcome) (before : Parts) (event : Option Event) (after : Parts) : Type 0 where
  pub linked : IsLinked after
  pub uses : UsesOne before after
  pub follows : GoesAs outcome event (configuration_of after)

-- the state of the parts and the devices
abbrev pub state_in : Parts → Devices → State
state_in parts devices = record { configuration = configuration_of parts; devices = devices }

-- the same of a move, which goes on with devices
abbrev pub MovesAs : Move → Option Event → State → Type 0
MovesAs IsStuck event after = Unit {0}
MovesAs IsFinal event after = Unit {0}
MovesAs (Moves event' next) event after = (event' ≡ event) × (next ≡ after)

pub record GoesWith (move : Move) (before : Parts) (event : Option Event) (after : Parts) (devices : Devices)
    : Type 0 where
  pub linked : IsLinked after
  pub uses : UsesOne before after
  pub moves : MovesAs move event (state_in after devices)

-- the term is an operation that takes memory
abbrev pub IsWriting : Term → Type 0
IsWriting (Operation operation receiver argument) = TakesNoMemory operation → ⊥
IsWriting _ = ⊥

-- the number, the truth value and the text that a literal is
abbrev pub number_in : Option Literal → Option ℤ
number_in (Some (NumberLiteral number)) = Some number
number_in _ = None

abbrev pub truth_in : Option Literal → Option Bool
truth_in (Some (TruthLiteral truth)) = Some truth
truth_in _ = None

abbrev pub text_in : Option Literal → Option (List ℕ)
text_in (Some (TextLiteral text)) = Some text
text_in _ = None
