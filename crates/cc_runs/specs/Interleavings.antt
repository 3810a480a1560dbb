-- Several tasks that run interleaved on the same devices.
use Rattle.std.specs.Prelude.{ℕ, zero, suc, nat_eq, List, [], ◌∷◌, ◌++◌, map, Option, Some, None, slice_get, slice_set}
use Rattle.std.specs.Prelude.{if◌then◌else◌, ◌≡◌}
use Rattle.std.specs.Option.{option_map}
use Rattle.cc_core.specs.Programs.{Entry}
use Rattle.cc_device.specs.Devices.{Devices, DeviceState, Answer, answer_of}
use Rattle.cc_device.specs.Events.{Event, Operated, Entered, Ended, Exited, literal_shown}
use Rattle.cc_runs.specs.Machine.{Configuration}
use Rattle.cc_runs.specs.Runs.{State, Move, IsFinal, Moves, move, Ending, ending_of, IsStuck}
use Rattle.cc_runs.specs.Links.{program_start}
use Rattle.cc_base.specs.declared.literal.Op.{Op}
use Rattle.cc_base.specs.Literals.{Literal}

-- The tasks by their numbers, each with its own store, frames, term and labels, and the devices, which all of them
-- share.
pub record World : Type 0 where
  pub tasks : List Configuration
  pub devices : Devices

-- the start of the programs of several entries
abbrev pub world_of : List Entry → Devices → World
world_of entries devices = record { tasks = map program_start entries; devices = devices }

abbrev pub state_of : Devices → Configuration → State
state_of devices configuration = record { configuration = configuration; devices = devices }

-- what comes of the task of the number, if there is one
abbrev pub move_of : World → ℕ → Option Move
move_of world task =
    option_map (λ configuration. move (state_of world.devices configuration)) (slice_get world.tasks task)

-- the world after a step of the task to the state
abbrev pub after_turn : World → ℕ → State → World
after_turn world task next = record { tasks = slice_set world.tasks task next.configuration; devices = next.devices }

-- a task whose turn it is, with what comes of it, and the schedule from there on
pub record Chosen : Type 0 where
  pub task : ℕ
  pub comes : Move
  pub later : List ℕ

-- the task, unless it is final or there is none of its number: then what is chosen of the others
abbrev pub offered : ℕ → List ℕ → Option Chosen → Option Move → Option Chosen
offered task later others None = others
offered task later others (Some IsFinal) = others
offered task later others (Some comes) = Some (record { task = task; comes = comes; later = later })

-- The next task of a schedule that is not final. A schedule is repeated for ever: what stands before the task was
-- passed over, and goes to the end, and so does the task.
abbrev pub chosen_from : World → List ℕ → List ℕ → Option Chosen
chosen_from world passed [] = None
chosen_from world passed (task ∷ others) =
    offered task (others ++ passed ++ task ∷ []) (chosen_from world (passed ++ task ∷ []) others) (move_of world task)

abbrev pub chosen : World → List ℕ → Option Chosen
chosen world schedule = chosen_from world [] schedule

-- a turn that was taken: the task's number, and the event of its step, if there is one
pub record Turn : Type 0 where
  pub task : ℕ
  pub event : Option Event

-- what is known of an interleaved run: its turns in order, and the world after them
pub record Interleaving : Type 0 where
  pub turns : List Turn
  pub last : World

abbrev pub resting : World → Interleaving
resting world = record { turns = []; last = world }

-- the run that begins with a turn, and goes on as another does
abbrev pub turn_first : Turn → Interleaving → Interleaving
turn_first turn later = record { turns = turn ∷ later.turns; last = later.last }

abbrev pub take_turn : (List ℕ → World → Interleaving) → World → ℕ → List ℕ → Move → Interleaving
take_turn rest world task later (Moves event next) =
    turn_first (record { task = task; event = event }) (rest later (after_turn world task next))
take_turn rest world task later stopped = resting world

abbrev pub go_on : (List ℕ → World → Interleaving) → World → Option Chosen → Interleaving
go_on rest world None = resting world
go_on rest world (Some next) = take_turn rest world next.task next.later next.comes

-- The interleaved run of the tasks by the schedule: each turn is one step of a task, final tasks are passed over at no
-- cost, and it ends where all tasks of the schedule are final, or one is stuck, or so many turns were taken.
abbrev pub interleave : ℕ → List ℕ → World → Interleaving
interleave zero schedule world = resting world
interleave (suc fuel) schedule world = go_on (interleave fuel) world (chosen world schedule)

-- an event with the number of its task
abbrev pub numbered : ℕ → Option Event → List (ℕ × Event) → List (ℕ × Event)
numbered task None events = events
numbered task (Some event) events = (task, event) ∷ events

-- the events of the turns, each with its task
abbrev pub trace_of : List Turn → List (ℕ × Event)
trace_of [] = []
trace_of (turn ∷ turns) = numbered turn.task turn.event (trace_of turns)

-- the events of all tasks in a trace, in the one order
abbrev pub all_events : List (ℕ × Event) → List Event
all_events trace = map (λ entry. entry.1) trace

-- the events of one task in a trace
abbrev pub own_events : ℕ → List (ℕ × Event) → List Event
own_events task [] = []
own_events task (first ∷ trace) =
    if nat_eq first.0 task then first.1 ∷ own_events task trace else own_events task trace

-- how many steps a task took
abbrev pub own_steps : ℕ → List Turn → ℕ
own_steps task [] = 0
own_steps task (turn ∷ turns) = if nat_eq turn.task task then suc (own_steps task turns) else own_steps task turns

-- how a task ends: as a run does that takes no further step
abbrev pub ending_in : Devices → Configuration → Ending
ending_in devices configuration = ending_of (state_of devices configuration) (move (state_of devices configuration))

abbrev pub ending_at : World → ℕ → Option Ending
ending_at world task = option_map (ending_in world.devices) (slice_get world.tasks task)

-- of each task its end and how many steps it took, from the task of a number on
abbrev pub ends_from : ℕ → List Turn → Devices → List Configuration → List (Ending × ℕ)
ends_from first turns devices [] = []
ends_from first turns devices (task ∷ tasks) =
    (ending_in devices task, own_steps first turns) ∷ ends_from (suc first) turns devices tasks

-- What is told of an interleaved run: its events, each with its task, and of each task its end and how many steps it
-- took.
pub record Report : Type 0 where
  pub trace : List (ℕ × Event)
  pub ends : List (Ending × ℕ)

abbrev pub report_of : Interleaving → Report
report_of run = record { trace = trace_of run.turns; ends = ends_from 0 run.turns run.last.devices run.last.tasks }

-- the report of the programs of several entries
abbrev pub interleaved_run : ℕ → List ℕ → List Entry → Devices → Report
interleaved_run fuel schedule entries devices = report_of (interleave fuel schedule (world_of entries devices))

-- turns that are taken, in whatever order, lead from a world to another
pub data Takes : World → List Turn → World → Type 0 where
  no_turn : {world : World} → Takes world [] world
  then_turn : {world last : World} {task : ℕ} {event : Option Event} {next : State} {turns : List Turn}
      → move_of world task ≡ Some (Moves event next) → Takes (after_turn world task next) turns last
      → Takes world (record { task = task; event = event } ∷ turns) last

-- the task has come to its end, or there is none of its number
abbrev pub IsAtRest : Option Move → Type 0
IsAtRest None = Unit {0}
IsAtRest (Some IsStuck) = ⊥
IsAtRest (Some IsFinal) = Unit {0}
IsAtRest (Some (Moves event next)) = ⊥

-- the event in front of the events, if it operates the device
abbrev pub on_device : ℕ → Event → List Event → List Event
on_device number (Operated device operation literal) events =
    if nat_eq device number then Operated device operation literal ∷ events else events
on_device number (Entered label) events = events
on_device number (Ended label) events = events
on_device number (Exited label) events = events

-- the events that operate the device
abbrev pub events_on : ℕ → List Event → List Event
events_on number [] = []
events_on number (event ∷ events) = on_device number event (events_on number events)

-- A history of the device of a number: what it was before, its events in order, and what it is after them. Each of
-- them is answered by the device as the events before it left it.
pub data History (number : ℕ) : DeviceState → List Event → DeviceState → Type 0 where
  quiet : {device : DeviceState} → History number device [] device
  then_operated : {device last : DeviceState} {operation : Op} {events : List Event}
      (argument : Option Literal) (answer : Answer)
      → answer_of device operation argument ≡ Some answer → History number answer.device events last
      → History number device (Operated number operation (literal_shown argument answer.literal) ∷ events) last
