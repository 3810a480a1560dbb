-- What holds of whole runs of well-typed programs.
use Rattle.std.specs.Prelude.{◌≡◌, ◌≢◌, ◌⊎◌, ◌<◌, ℕ, List, [], Option, Some, slice_get}
use Rattle.std.specs.Option.{option_map}
use Rattle.cc_base.specs.declared.literal.Base.{Base}
use Rattle.cc_base.specs.declared.literal.Op.{Op}
use Rattle.cc_capture.specs.declared.var.Var.TheVariants.{Free}
use Rattle.cc_capture.specs.declared.var.Elem.TheVariants.{Var as Variable, Cap}
use Rattle.cc_capture.specs.Sets.{Set, Member}
use Rattle.cc_core.specs.Shapes.{Shape, CapturingType}
use Rattle.cc_base.specs.Literals.{Literal, UnitLiteral}
use Rattle.cc_core.specs.Terms.{Term, LiteralTerm, Application}
use Rattle.cc_core.specs.Contexts.{TermEntry, Context, lookup}
use Rattle.cc_core.specs.Typing.{base_operated, HasType}
use Rattle.cc_core.specs.Stores.{ValueCell, DeviceCell, Store, HasStoreTyping, authority}
use Rattle.cc_device.specs.Devices.{DeviceState, base_of_device, Devices}
use Rattle.cc_device.specs.Endings.{Shown}
use Rattle.cc_device.specs.Events.{Event, Operated, FollowsAll, IsWellScoped}
use Rattle.cc_runs.specs.Answers.{shown}
use Rattle.cc_runs.specs.Machine.{configured}
use Rattle.cc_runs.specs.Reach.{SetReaches, captured_set}
use Rattle.cc_runs.specs.Runs.{State, Move, IsStuck, IsFinal, Moves, move, Leads, IsStopped, run}
use Rattle.cc_runs.specs.Soundness.{labels_in, IsSound, ReachesNoNewDevice, FitsScopes}
use Rattle.cc_runs.specs.SafeRuns.{scopes_of, IsListed, IsAmong}

-- each device cell has a device of its shape
abbrev pub FitsDevices : Store → Devices → Type 0
FitsDevices store devices =
    (position number : ℕ) (base : Base) → lookup store position ≡ Some (DeviceCell number base)
    → (device : DeviceState) × (slice_get devices number ≡ Some device) × (base_of_device device ≡ base)

-- the same by one equation for each device cell
abbrev pub HasShapesOfCells : Store → Devices → Type 0
HasShapesOfCells store devices =
    (position number : ℕ) (base : Base) → lookup store position ≡ Some (DeviceCell number base)
    → option_map base_of_device (slice_get devices number) ≡ Some base

-- the two are one
abbrev pub FittingIsByShapes : Type 0
FittingIsByShapes =
    (store : Store) (devices : Devices)
    → (FitsDevices store devices → HasShapesOfCells store devices)
    × (HasShapesOfCells store devices → FitsDevices store devices)

-- the configuration is sound, and the devices fit its store
pub record IsSoundState (state : State) : Type 0 where
  pub configuration : IsSound state.configuration
  pub devices : FitsDevices state.configuration.store state.devices

-- What a move from a sound state keeps: soundness; no device is reached that was not; the event fits the scopes; each
-- device keeps its shape; and a device that is operated was reached.
pub record IsKeptSound (before : State) (event : Option Event) (after : State) : Type 0 where
  pub sound : IsSoundState after
  pub reach : ReachesNoNewDevice before.configuration after.configuration
  pub scopes : FitsScopes (scopes_of before.configuration.stack) event (scopes_of after.configuration.stack)
  pub shapes : (number : ℕ)
      → option_map base_of_device (slice_get after.devices number)
      ≡ option_map base_of_device (slice_get before.devices number)
  pub operated : (device : ℕ) (operation : Op) (literal : Literal)
      → event ≡ Some (Operated device operation literal)
      → SetReaches before.configuration.store (captured_set before.configuration)
      (DeviceCell device (base_operated operation))

-- a sound state is not stuck: it is final with an answer that is shown, or what it moves to is sound
abbrev pub IsSoundMove : State → Move → Type 0
IsSoundMove before IsStuck = ⊥
IsSoundMove before IsFinal = (shows : Shown) × (shown before.configuration ≡ Some shows)
IsSoundMove before (Moves event after) = IsKeptSound before event after

-- Moves from sound states are sound.
abbrev pub MovesAreSound : Type 0
MovesAreSound = (state : State) → IsSoundState state → IsSoundMove state (move state)

-- A program whose store and term are typed, and that has made no label, starts soundly.
abbrev pub TypedProgramsStartSoundly : Type 0
TypedProgramsStartSoundly =
    (store : Store) (context : Context) (term : Term) (type : CapturingType)
    → HasStoreTyping store context → HasType context term type → labels_in store ≡ []
    → IsSound (configured store [] 0 term)

-- Steps lead from sound states to sound ones alone.
abbrev pub SoundnessIsKept : Type 0
SoundnessIsKept =
    (state next : State) (events : List Event) → IsSoundState state → Leads state events next → IsSoundState next

-- No state that a sound one leads to is stuck.
abbrev pub SoundStatesNeverGetStuck : Type 0
SoundStatesNeverGetStuck =
    (state next : State) (events : List Event) → IsSoundState state → Leads state events next → move next ≢ IsStuck

-- Each device that is operated now or later is reached by the captured set of now.
abbrev pub OperatedDevicesAreReached : Type 0
OperatedDevicesAreReached =
    (state next : State) (events : List Event) → IsSoundState state → Leads state events next
    → (device : ℕ) (operation : Op) (literal : Literal) → IsAmong (Operated device operation literal) events
    → SetReaches state.configuration.store (captured_set state.configuration)
    (DeviceCell device (base_operated operation))

-- The captured set reaches no new device.
abbrev pub ReachNeverGrows : Type 0
ReachNeverGrows =
    (state next : State) (events : List Event) → IsSoundState state → Leads state events next
    → ReachesNoNewDevice state.configuration next.configuration

-- Boundaries are entered, ended and left by exits in order: each exit finds its scope on the stack.
abbrev pub ScopesFollowEvents : Type 0
ScopesFollowEvents =
    (state next : State) (events : List Event) → IsSoundState state → Leads state events next
    → FollowsAll (scopes_of state.configuration.stack) events (scopes_of next.configuration.stack)

-- A run from a sound state does not stop before its end, whatever its fuel.
abbrev pub RunsNeverStop : Type 0
RunsNeverStop = (fuel : ℕ) (state : State) → IsSoundState state → (run fuel state).ending ≢ IsStopped

-- A run is its steps.
abbrev pub RunsAreSteps : Type 0
RunsAreSteps = (fuel : ℕ) (state : State) → Leads state (run fuel state).events (run fuel state).last

-- The events of a run that begins with no scope are well scoped.
abbrev pub EventsAreWellScoped : Type 0
EventsAreWellScoped =
    (fuel : ℕ) (state : State) → IsSoundState state → scopes_of state.configuration.stack ≡ []
    → IsWellScoped (run fuel state).events

-- devices stand only at the first positions, so many of them, and each at its number
abbrev pub DevicesStandFirst : Store → ℕ → Type 0
DevicesStandFirst store count =
    (position number : ℕ) (base : Base) → lookup store position ≡ Some (DeviceCell number base)
    → (position ≡ number) × (number < count)

-- the set names devices, and perhaps the universal capability, but no other variable
abbrev pub NamesDevices : Store → Set → Type 0
NamesDevices store set =
    (position : ℕ) → Member (Variable (Free position)) set
    → (number : ℕ) × (base : Base) × (lookup store position ≡ Some (DeviceCell number base))

-- the start of a program on the devices: the entry is applied to a cell with unit
abbrev pub start : Store → ℕ → ℕ → Devices → State
start store entry unit devices =
    record { configuration = configured store [] 0 (Application (Free entry) (Free unit)); devices = devices }

-- The start is sound, its store has so many devices at the first positions, and the entry's declared set names devices
-- alone, besides the universal capability.
pub record IsSoundStart (store : Store) (context : Context) (entry unit count : ℕ) (shape : Shape) (set : Set)
    (devices : Devices) : Type 0 where
  pub sound : IsSoundState (start store entry unit devices)
  pub stored : HasStoreTyping store context
  pub declared : lookup context entry ≡ Some (TermEntry shape set)
  pub applied : lookup store unit ≡ Some (ValueCell (LiteralTerm UnitLiteral))
  pub first : DevicesStandFirst store count
  pub names : NamesDevices store set

-- The entry of a program, which is applied to unit, operates only devices of its authority: those that its declared set
-- gives leave to use.
abbrev pub EntriesKeepTheirAuthority : Type 0
EntriesKeepTheirAuthority =
    (store : Store) (context : Context) (entry unit count : ℕ) (shape : Shape) (set : Set) (devices : Devices)
    → IsSoundStart store context entry unit count shape set devices
    → (fuel device : ℕ) (operation : Op) (literal : Literal)
    → IsAmong (Operated device operation literal) (run fuel (start store entry unit devices)).events
    → IsListed device (authority count set)

-- The authority of a set over so many devices has exactly those that the set names, or all where it has the universal
-- capability.
abbrev pub AuthorityIsWhatIsNamed : Type 0
AuthorityIsWhatIsNamed =
    (count : ℕ) (set : Set) (device : ℕ)
    → (IsListed device (authority count set)
    → (device < count) × (Member Cap set ⊎ Member (Variable (Free device)) set))
    × ((device < count) × (Member Cap set ⊎ Member (Variable (Free device)) set)
    → IsListed device (authority count set))
