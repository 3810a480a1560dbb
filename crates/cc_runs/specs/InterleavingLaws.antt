-- What holds of tasks that run interleaved.
use Rattle.std.specs.Prelude.{◌≡◌, ◌≢◌, ◌≤◌, ◌⊎◌, ℕ, zero, suc, List, [], ◌∷◌, ◌++◌, length, Option, Some}
use Rattle.std.specs.Prelude.{slice_get}
use Rattle.std.specs.List.{sum_by}
use Rattle.cc_base.specs.declared.literal.Base.{Base}
use Rattle.cc_base.specs.declared.literal.Op.{Op}
use Rattle.cc_base.specs.Literals.{Literal}
use Rattle.cc_core.specs.Typing.{base_operated}
use Rattle.cc_core.specs.Stores.{DeviceCell}
use Rattle.cc_device.specs.Devices.{DeviceState, Devices}
use Rattle.cc_device.specs.Events.{Event, Operated, FollowsAll}
use Rattle.cc_runs.specs.Machine.{Configuration}
use Rattle.cc_runs.specs.Reach.{SetReaches, captured_set}
use Rattle.cc_runs.specs.Runs.{State, Move, IsStuck, IsFinal, Moves, move, run}
use Rattle.cc_runs.specs.Soundness.{IsSound, ReachesNoNewDevice}
use Rattle.cc_runs.specs.SafeRuns.{scopes_of, IsListed, IsAmong}
use Rattle.cc_runs.specs.SoundRuns.{IsSoundState}
use Rattle.cc_runs.specs.Interleavings.{World, state_of, move_of, after_turn, Turn, interleave, trace_of}
use Rattle.cc_runs.specs.Interleavings.{all_events, own_events, own_steps, ending_at, Report, report_of, Takes}
use Rattle.cc_runs.specs.Interleavings.{IsAtRest, events_on, History}

-- each task is sound on the devices
abbrev pub AreSound : World → Type 0
AreSound world =
    (task : ℕ) (configuration : Configuration) → slice_get world.tasks task ≡ Some configuration
    → IsSoundState (state_of world.devices configuration)

-- An interleaved run is its turns.
abbrev pub InterleavingsAreTurns : Type 0
InterleavingsAreTurns =
    (fuel : ℕ) (schedule : List ℕ) (world : World)
    → Takes world (interleave fuel schedule world).turns (interleave fuel schedule world).last

-- how many steps the report tells of all tasks together
abbrev pub all_steps : Report → ℕ
all_steps report = sum_by (λ told. told.1) report.ends

-- An interleaved run has at most as many turns as it has fuel. Each of them is one step of one of its tasks: the steps
-- of all tasks together are as many as the turns, and so at most the fuel too.
abbrev pub TurnsAreWithinFuel : Type 0
TurnsAreWithinFuel =
    (fuel : ℕ) (schedule : List ℕ) (world : World)
    → (length (interleave fuel schedule world).turns ≤ fuel)
    × (all_steps (report_of (interleave fuel schedule world)) ≡ length (interleave fuel schedule world).turns)
    × (all_steps (report_of (interleave fuel schedule world)) ≤ fuel)

-- It ends only where all its turns are taken, or each task of the schedule has come to its end.
abbrev pub SchedulesGoOn : Type 0
SchedulesGoOn =
    (fuel : ℕ) (schedule : List ℕ) (world : World) → AreSound world
    → (length (interleave fuel schedule world).turns ≡ fuel)
    ⊎ ((task : ℕ) → IsListed task schedule → IsAtRest (move_of (interleave fuel schedule world).last task))

-- The tasks of a list come up one after the other: each is at rest and is passed over, or takes a turn.
pub data ComeUp : World → List ℕ → List Turn → World → Type 0 where
  all_came : {world : World} → ComeUp world [] [] world
  passed_over : {world last : World} {task : ℕ} {tasks : List ℕ} {turns : List Turn}
      → IsAtRest (move_of world task) → ComeUp world tasks turns last → ComeUp world (task ∷ tasks) turns last
  takes_turn : {world last : World} {task : ℕ} {event : Option Event} {next : State} {tasks : List ℕ}
      {turns : List Turn} → move_of world task ≡ Some (Moves event next)
      → ComeUp (after_turn world task next) tasks turns last
      → ComeUp world (task ∷ tasks) (record { task = task; event = event } ∷ turns) last

-- a schedule so many times over
abbrev pub repeated : ℕ → List ℕ → List ℕ
repeated zero schedule = []
repeated (suc times) schedule = schedule ++ repeated times schedule

-- In an interleaved run the tasks come up as the schedule has them when it is repeated.
abbrev pub SchedulesAreRepeated : Type 0
SchedulesAreRepeated =
    (fuel : ℕ) (schedule : List ℕ) (world : World)
    → (tasks : List ℕ) × (others : List ℕ) × (times : ℕ)
    × ComeUp world tasks (interleave fuel schedule world).turns (interleave fuel schedule world).last
    × (tasks ++ others ≡ repeated times schedule)

-- Tasks stay sound.
abbrev pub TasksStaySound : Type 0
TasksStaySound = (world last : World) (turns : List Turn) → AreSound world → Takes world turns last → AreSound last

-- the configuration reaches the device of the number
abbrev pub ReachesDevice : Configuration → ℕ → Type 0
ReachesDevice configuration number =
    (base : Base) × SetReaches configuration.store (captured_set configuration) (DeviceCell number base)

-- each device that the configuration reaches is the same on both sides
abbrev pub AgreeWhereReached : Configuration → Devices → Devices → Type 0
AgreeWhereReached configuration left right =
    (number : ℕ) → ReachesDevice configuration number → slice_get left number ≡ slice_get right number

-- A step comes to the same on both sides: where it goes on, with the same event to the same configuration, and each
-- device that was reached is the same on both sides again.
abbrev pub ComesToTheSame : Configuration → Move → Move → Type 0
ComesToTheSame before IsStuck IsStuck = Unit {0}
ComesToTheSame before IsFinal IsFinal = Unit {0}
ComesToTheSame before (Moves event next) (Moves event' next') =
    (event ≡ event') × (next.configuration ≡ next'.configuration) × AgreeWhereReached before next.devices next'.devices
ComesToTheSame before _ _ = ⊥

-- What comes of a step depends only on the devices that are reached.
abbrev pub StepsDependOnWhatTheyReach : Type 0
StepsDependOnWhatTheyReach =
    (configuration : Configuration) (left right : Devices) → IsSound configuration
    → AgreeWhereReached configuration left right
    → ComesToTheSame configuration (move (state_of left configuration)) (move (state_of right configuration))

-- A step changes no other device.
abbrev pub StepsChangeWhatTheyReach : Type 0
StepsChangeWhatTheyReach =
    (state next : State) (event : Option Event) → IsSoundState state → move state ≡ Moves event next
    → (number : ℕ) → (ReachesDevice state.configuration number → ⊥)
    → slice_get next.devices number ≡ slice_get state.devices number

-- What a task keeps while turns are taken, its own and those of others: it is still there; the devices that it
-- operates were reached; it reaches no new one; and its own events fit its own scopes.
pub record KeepsItsPromises (task : ℕ) (before : Configuration) (turns : List Turn) (last : World) : Type 0 where
  pub after : Configuration
  pub there : slice_get last.tasks task ≡ Some after
  pub operated : (device : ℕ) (operation : Op) (literal : Literal)
      → IsAmong (Operated device operation literal) (own_events task (trace_of turns))
      → SetReaches before.store (captured_set before) (DeviceCell device (base_operated operation))
  pub reach : ReachesNoNewDevice before after
  pub scopes : FollowsAll (scopes_of before.stack) (own_events task (trace_of turns)) (scopes_of after.stack)

-- Each task keeps what a run alone keeps, for its own configurations, events and labels.
abbrev pub TasksKeepTheirPromises : Type 0
TasksKeepTheirPromises =
    (world last : World) (turns : List Turn) → AreSound world → Takes world turns last
    → (task : ℕ) (configuration : Configuration) → slice_get world.tasks task ≡ Some configuration
    → KeepsItsPromises task configuration turns last

-- The events of a device in the one trace of all tasks are a history of that device alone, from its state at the start.
abbrev pub DevicesHaveHistories : Type 0
DevicesHaveHistories =
    (world last : World) (turns : List Turn) → AreSound world → Takes world turns last
    → (number : ℕ) (device : DeviceState) → slice_get world.devices number ≡ Some device
    → (device' : DeviceState) × (slice_get last.devices number ≡ Some device')
    × History number device (events_on number (all_events (trace_of turns))) device'

-- no other task reaches a device that this one reaches
abbrev pub IsApart : World → ℕ → Configuration → Type 0
IsApart world task configuration =
    (other : ℕ) (configuration' : Configuration) → other ≢ task → slice_get world.tasks other ≡ Some configuration'
    → (number : ℕ) → ReachesDevice configuration number → ReachesDevice configuration' number → ⊥

-- What a task is after turns of its own and of others, it is after its own steps alone from the devices at the start:
-- with its own number of steps for fuel, the run alone has its events, its end, its number of steps and its last
-- configuration, and leaves each device that was reached as it is.
pub record RunsAsAlone (task : ℕ) (before : Configuration) (devices : Devices) (turns : List Turn) (last : World)
    : Type 0 where
  pub events : (run (own_steps task turns) (state_of devices before)).events ≡ own_events task (trace_of turns)
  pub ending : Some (run (own_steps task turns) (state_of devices before)).ending ≡ ending_at last task
  pub steps : (run (own_steps task turns) (state_of devices before)).steps ≡ own_steps task turns
  pub configuration : Some (run (own_steps task turns) (state_of devices before)).last.configuration
      ≡ slice_get last.tasks task
  pub reached : AgreeWhereReached before last.devices
      (run (own_steps task turns) (state_of devices before)).last.devices

-- A task whose devices no other task reaches runs as it does alone.
abbrev pub TasksApartRunAsAlone : Type 0
TasksApartRunAsAlone =
    (world last : World) (turns : List Turn) → AreSound world → Takes world turns last
    → (task : ℕ) (configuration : Configuration) → slice_get world.tasks task ≡ Some configuration
    → IsApart world task configuration
    → RunsAsAlone task configuration world.devices turns last
