-- Steps without devices: by themselves, and with an answer that is given.
use Rattle.std.specs.Prelude.{◌≡◌, ℕ, Option, None}
use Rattle.cc_base.specs.declared.literal.Op.{Op}
use Rattle.cc_base.specs.Literals.{Literal}
use Rattle.cc_core.specs.Captured.{captured_variables}
use Rattle.cc_core.specs.Stores.{DeviceCell}
use Rattle.cc_core.specs.Typing.{base_of, base_operated, base_answered}
use Rattle.cc_device.specs.Events.{Event, Operated, literal_shown}
use Rattle.cc_machine.specs.Standing.{StandsFor}
use Rattle.cc_runs.specs.Machine.{Configuration, Next, Ask, step}
use Rattle.cc_runs.specs.Reach.{SetReaches}
use Rattle.cc_runs.specs.Soundness.{IsSound, IsSoundStep}

-- Each configuration that the first one stands for goes on by itself, with the event, to one that the second stands for.
-- Where it is sound, all is kept that steps of sound configurations keep.
pub record AdvancesAlike (held : Configuration) (event : Option Event) (held' : Configuration) : Type 0 where
  pub advances : (configuration : Configuration) → StandsFor held configuration
      → (next : Configuration) × (step configuration ≡ Next event next) × StandsFor held' next
  pub keeps : (configuration next : Configuration) → StandsFor held configuration → IsSound configuration
      → step configuration ≡ Next event next → IsSoundStep configuration event next

-- The configuration asks a device, and goes on to the next one with the answer, which is of the operation's kind. The
-- event is that of the operation.
pub record GoesOnWith (answer : Literal) (configuration : Configuration) (event : Event) (next : Configuration)
    : Type 0 where
  pub device : ℕ
  pub operation : Op
  pub argument : Option Literal
  pub resume : Literal → Configuration
  pub asks : step configuration ≡ Ask device operation argument resume
  pub of_kind : base_of answer ≡ base_answered operation
  pub tells : event ≡ Operated device operation (literal_shown argument answer)
  pub resumes : resume answer ≡ next

-- Each configuration that the first one stands for goes on so to one that the second stands for. Where it is sound, its
-- term reaches the device that is asked, and all is kept that steps of sound configurations keep.
pub record AnswersAlike (held : Configuration) (answer : Literal) (event : Event) (held' : Configuration)
    : Type 0 where
  pub goes_on : (configuration : Configuration) → StandsFor held configuration
      → (next : Configuration) × GoesOnWith answer configuration event next × StandsFor held' next
  pub reaches : (configuration next : Configuration) → StandsFor held configuration → IsSound configuration
      → (goes : GoesOnWith answer configuration event next)
      → SetReaches configuration.store (captured_variables configuration.term)
      (DeviceCell goes.device (base_operated goes.operation))
  pub keeps : (configuration next : Configuration) → StandsFor held configuration → IsSound configuration
      → GoesOnWith answer configuration event next → IsSoundStep configuration None next
