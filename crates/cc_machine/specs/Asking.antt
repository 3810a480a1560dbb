-- What is asked of a device, and how the parts go on with an answer.
use Rattle.std.specs.Prelude.{◌≡◌, ℕ, List, length, Option, Some, None}
use Rattle.std.specs.Option.{option_map}
use Rattle.cc_base.specs.declared.literal.Op.{Op}
use Rattle.cc_base.specs.Literals.{Literal}
use Rattle.cc_core.specs.Typing.{base_of, base_answered}
use Rattle.cc_device.specs.DeviceViews.{shown_literal}
use Rattle.cc_runs.specs.Machine.{Configuration, StepOutcome, Stuck, Final, Next, Ask}
use Rattle.cc_machine.specs.declared.asking.Wanted.{Wanted}
use Rattle.cc_machine.specs.declared.parts.Parts.{Parts}
use Rattle.cc_machine.specs.Lines.{text_in}
use Rattle.cc_machine.specs.Parts.{configuration_of, IsLinked, HasRoom}

-- the device that is asked, the operation, and its argument if it has one
pub record Question : Type 0 where
  pub device : ℕ
  pub operation : Op
  pub argument : Option Literal

-- the question that an outcome asks, if it asks one
abbrev pub question_in : StepOutcome → Option Question
question_in Stuck = None
question_in Final = None
question_in (Next event next) = None
question_in (Ask device operation argument resume) =
    Some (record { device = device; operation = operation; argument = argument })

-- the configuration that an outcome goes on to with an answer, if it asks
abbrev pub resumed_with : Literal → StepOutcome → Option Configuration
resumed_with answer Stuck = None
resumed_with answer Final = None
resumed_with answer (Next event next) = None
resumed_with answer (Ask device operation argument resume) = Some (resume answer)

-- something is asked, and the literal is of the kind of the operation's answers
abbrev pub IsAnswerTo : Option Question → Literal → Type 0
IsAnswerTo None answer = ⊥
IsAnswerTo (Some question) answer = base_of answer ≡ base_answered question.operation

-- the text that is the argument, if something is asked with one
abbrev pub asked_text : Option Question → Option (List ℕ)
asked_text None = None
asked_text (Some question) = text_in question.argument

-- what is wanted, as a question
abbrev pub question_of : Wanted → Question
question_of wanted =
    record {
      device = wanted.device;
      operation = wanted.operation;
      argument = option_map shown_literal wanted.argument;
    }

-- The parts go on with the answer as the outcome does. Their environments are as they should be, the program is the same,
-- no cell is added, and they have all the room that they had.
pub record Resumes (outcome : StepOutcome) (answer : Literal) (before after : Parts) : Type 0 where
  pub linked : IsLinked after
  pub program : after.program ≡ before.program
  pub cells : length after.cells.items ≡ length before.cells.items
  pub room : (steps : ℕ) → HasRoom before steps → HasRoom after steps
  pub resumed : resumed_with answer outcome ≡ Some (configuration_of after)
