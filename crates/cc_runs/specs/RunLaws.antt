-- Laws of steps and of runs, whether what runs is typed or not.
use Rattle.std.specs.Prelude.{◌≡◌, ◌≢◌, ◌≤◌, ◌<◌, ℕ, ◌+◌, List, [], ◌++◌, length, Option, Some, IsTrue, slice_get}
use Rattle.std.specs.Option.{option_map}
use Rattle.cc_base.specs.declared.literal.Op.{Op}
use Rattle.cc_base.specs.Literals.{Literal}
use Rattle.cc_core.specs.Typing.{base_of, base_operated, base_taken, base_answered}
use Rattle.cc_device.specs.Devices.{DeviceState, base_of_device, Answer, answer_of}
use Rattle.cc_device.specs.Endings.{Shown, Done, OutOfFuel}
use Rattle.cc_device.specs.Events.{Event, Operated}
use Rattle.cc_runs.specs.Machine.{Configuration, Final, is_taken, step}
use Rattle.cc_runs.specs.Answers.{is_answer, shown}
use Rattle.cc_runs.specs.Runs.{State, IsFinal, Moves, move, Ends, Run, ending_of, run, LeadsIn}

-- the term is an answer, and no frame waits for one
abbrev pub IsAnswered : Configuration → Type 0
IsAnswered configuration = IsTrue (is_answer configuration.term) × (configuration.stack ≡ [])

-- Exactly the answered configurations are final.
abbrev pub FinalExactlyWhereAnswered : Type 0
FinalExactlyWhereAnswered =
    (configuration : Configuration)
    → (step configuration ≡ Final → IsAnswered configuration)
    × (IsAnswered configuration → step configuration ≡ Final)

-- Exactly the states of final configurations are final.
abbrev pub FinalStatesAreAnswered : Type 0
FinalStatesAreAnswered =
    (state : State)
    → (move state ≡ IsFinal → IsAnswered state.configuration)
    × (IsAnswered state.configuration → move state ≡ IsFinal)

-- the operation is one for the device, and the argument is what it takes
abbrev pub Suits : DeviceState → Op → Option Literal → Type 0
Suits device operation argument =
    (base_of_device device ≡ base_operated operation) × IsTrue (is_taken (base_taken operation) argument)

-- A device answers exactly the operations that suit it, and with a literal of the operation's kind.
abbrev pub DevicesAnswerWhatSuits : Type 0
DevicesAnswerWhatSuits =
    (device : DeviceState) (operation : Op) (argument : Option Literal)
    → (Suits device operation argument → (answer : Answer) × (answer_of device operation argument ≡ Some answer))
    × ((answer : Answer) → answer_of device operation argument ≡ Some answer
    → Suits device operation argument × (base_of answer.literal ≡ base_answered operation))

-- A move touches only the device that its event operates.
abbrev pub MovesTouchOneDevice : Type 0
MovesTouchOneDevice =
    (state next : State) (event : Option Event) → move state ≡ Moves event next
    → (number : ℕ)
    → ((operation : Op) (literal : Literal) → event ≢ Some (Operated number operation literal))
    → slice_get next.devices number ≡ slice_get state.devices number

-- Each device keeps its shape, and none is added or lost.
abbrev pub MovesKeepTheDevices : Type 0
MovesKeepTheDevices =
    (state next : State) (event : Option Event) → move state ≡ Moves event next
    → (length next.devices ≡ length state.devices)
    × ((number : ℕ)
    → option_map base_of_device (slice_get next.devices number)
    ≡ option_map base_of_device (slice_get state.devices number))

-- the state goes on to another
abbrev pub GoesOn : State → Type 0
GoesOn state = (event : Option Event) × (next : State) × (move state ≡ Moves event next)

-- What a run is: steps from its start, at most as many as its fuel, and fewer only where its last state does not go on;
-- and its end is that of its last state.
pub record IsRun (fuel : ℕ) (state : State) (run : Run) : Type 0 where
  pub led : LeadsIn run.steps state run.events run.last
  pub within_fuel : run.steps ≤ fuel
  pub fewer : run.steps < fuel → GoesOn run.last → ⊥
  pub ending : run.ending ≡ ending_of run.last (move run.last)

-- There is exactly one run with the fuel from the state.
abbrev pub RunsAreExact : Type 0
RunsAreExact =
    (fuel : ℕ) (state : State)
    → IsRun fuel state (run fuel state)
    × ((other : Run) → IsRun fuel state other → other ≡ run fuel state)

-- A run takes no more steps than it has fuel, and one that takes fewer has not run out of it.
abbrev pub StepsAreWithinFuel : Type 0
StepsAreWithinFuel =
    (fuel : ℕ) (state : State)
    → ((run fuel state).steps ≤ fuel)
    × ((run fuel state).steps < fuel → (run fuel state).ending ≢ Ends OutOfFuel)

-- after so many steps the state still goes on
abbrev pub StillGoesOn : ℕ → State → Type 0
StillGoesOn steps state =
    (events : List Event) × (next : State) × LeadsIn steps state events next × GoesOn next

-- A run is out of fuel exactly where its state still goes on after as many steps as it has fuel.
abbrev pub OutOfFuelExactly : Type 0
OutOfFuelExactly =
    (fuel : ℕ) (state : State)
    → ((run fuel state).ending ≡ Ends OutOfFuel → StillGoesOn fuel state)
    × (StillGoesOn fuel state → (run fuel state).ending ≡ Ends OutOfFuel)

-- within so many steps the state comes to a final one, which shows so
abbrev pub ComesTo : ℕ → State → Shown → Type 0
ComesTo fuel state shows =
    (steps : ℕ) × (events : List Event) × (last : State)
    × (steps ≤ fuel)
    × LeadsIn steps state events last
    × (move last ≡ IsFinal)
    × (shown last.configuration ≡ Some shows)

-- A run is done exactly where its state comes to a final one within its fuel, and shows what that one does.
abbrev pub DoneExactly : Type 0
DoneExactly =
    (fuel : ℕ) (state : State) (shows : Shown)
    → ((run fuel state).ending ≡ Ends (Done shows) → ComesTo fuel state shows)
    × (ComesTo fuel state shows → (run fuel state).ending ≡ Ends (Done shows))

-- a run, and then another from its last state
abbrev pub followed_by : Run → Run → Run
followed_by first second =
    record {
      events = first.events ++ second.events;
      ending = second.ending;
      steps = first.steps + second.steps;
      last = second.last;
    }

-- A run with the sum of two fuels is the run with the first, and then the run from its last state with the second.
abbrev pub RunsFollowRuns : Type 0
RunsFollowRuns =
    (fuel further : ℕ) (state : State)
    → run (fuel + further) state ≡ followed_by (run fuel state) (run further (run fuel state).last)
