-- Runs of the machine on devices.
use Rattle.std.specs.Prelude.{◌≡◌, ℕ, zero, suc, List, [], ◌∷◌, Option, Some, None}
use Rattle.cc_base.specs.declared.literal.Op.{Op}
use Rattle.cc_base.specs.Literals.{Literal}
use Rattle.cc_device.specs.Devices.{Devices, Reply, operate}
use Rattle.cc_device.specs.Endings.{Shown, End, Done, OutOfFuel}
use Rattle.cc_device.specs.Events.{Event, Operated, literal_shown}
use Rattle.cc_runs.specs.Answers.{shown}
use Rattle.cc_runs.specs.Machine.{Configuration, StepOutcome, Stuck, Final, Next, Ask, step}

-- a configuration with the devices
pub record State : Type 0 where
  pub configuration : Configuration
  pub devices : Devices

-- what comes of a state: it is stuck or final, or it moves
pub data Move : Type 0 where
  IsStuck : Move
  IsFinal : Move
  Moves : (event : Option Event) (next : State) → Move

-- the answer of a device is gone on from, with the event of its operation; without an answer the state is stuck
abbrev pub answered : ℕ → Op → Option Literal → (Literal → Configuration) → Option Reply → Move
answered device operation argument resume (Some reply) =
    Moves (Some (Operated device operation (literal_shown argument reply.literal)))
    (record { configuration = resume reply.literal; devices = reply.devices })
answered device operation argument resume None = IsStuck

-- the device table answers what a step asks
abbrev pub closed : Devices → StepOutcome → Move
closed devices Stuck = IsStuck
closed devices Final = IsFinal
closed devices (Next event next) = Moves event (record { configuration = next; devices = devices })
closed devices (Ask device operation argument resume) =
    answered device operation argument resume (operate devices device operation argument)

-- one step on the devices
abbrev pub move : State → Move
move state = closed state.devices (step state.configuration)

-- the event in front of the events, if there is one
abbrev pub with_event : Option Event → List Event → List Event
with_event None events = events
with_event (Some event) events = event ∷ events

-- How a run ends: as the runs of sound states do, or at a state that is stuck, or whose last variable has no cell.
pub data Ending : Type 0 where
  Ends : (end : End) → Ending
  IsStopped : Ending

-- what is known of a run: its events in order, its end, the number of its steps, and its last state
pub record Run : Type 0 where
  pub events : List Event
  pub ending : Ending
  pub steps : ℕ
  pub last : State

-- the run that takes no step
abbrev pub ended : Ending → State → Run
ended ending last = record { events = []; ending = ending; steps = 0; last = last }

-- the run that begins with a move, and goes on as another does
abbrev pub after_move : Option Event → Run → Run
after_move event later =
    record { events = with_event event later.events; ending = later.ending; steps = suc later.steps; last = later.last }

-- the end with what is shown, if anything is
abbrev pub end_with : Option Shown → Ending
end_with (Some shown) = Ends (Done shown)
end_with None = IsStopped

-- the end of a run that takes no further step, by what would come of its last state
abbrev pub ending_of : State → Move → Ending
ending_of state IsStuck = IsStopped
ending_of state IsFinal = end_with (shown state.configuration)
ending_of state (Moves event next) = Ends OutOfFuel

-- the run on from a state, by what comes of it
abbrev pub run_on : (State → Run) → State → Move → Run
run_on rest state (Moves event next) = after_move event (rest next)
run_on rest state stopped = ended (ending_of state stopped) state

-- the run from a state until it is final or stuck, or so many steps were taken
abbrev pub run : ℕ → State → Run
run zero state = ended (ending_of state (move state)) state
run (suc fuel) state = run_on (run fuel) state (move state)

-- so many steps lead from a state to another, with the events in order
pub data LeadsIn : ℕ → State → List Event → State → Type 0 where
  none : {state : State} → LeadsIn zero state [] state
  more : {steps : ℕ} {state next last : State} {event : Option Event} {events : List Event}
      → move state ≡ Moves event next → LeadsIn steps next events last
      → LeadsIn (suc steps) state (with_event event events) last

-- steps lead from a state to another, with the events in order
abbrev pub Leads : State → List Event → State → Type 0
Leads state events next = (steps : ℕ) × LeadsIn steps state events next
