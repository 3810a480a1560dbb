-- What holds of a run that has leave to use some devices: at each of its moments, and as a whole.
use Rattle.std.specs.Prelude.{◌≡◌, ◌≢◌, ◌⊎◌, ℕ, List, [], ◌∷◌, map, Some}
use Rattle.cc_base.specs.declared.literal.Base.{Base}
use Rattle.cc_base.specs.declared.literal.Op.{Op}
use Rattle.cc_base.specs.Literals.{Literal}
use Rattle.cc_core.specs.Typing.{base_operated}
use Rattle.cc_core.specs.Stores.{DeviceCell}
use Rattle.cc_device.specs.Events.{Event, Operated, Exited, IsWellScoped}
use Rattle.cc_device.specs.Devices.{Devices, base_of_device}
use Rattle.cc_runs.specs.Machine.{LetFrame, ScopeFrame, RepetitionFrame, Stack}
use Rattle.cc_runs.specs.Reach.{SetReaches, captured_set}
use Rattle.cc_runs.specs.Runs.{State, IsStuck, Moves, move, Leads, IsStopped, run}

-- the labels of the scopes on a stack, the top one first
abbrev pub scopes_of : Stack → List ℕ
scopes_of [] = []
scopes_of (LetFrame body ∷ stack) = scopes_of stack
scopes_of (ScopeFrame label ∷ stack) = label ∷ scopes_of stack
scopes_of (RepetitionFrame function begun wanted ∷ stack) = scopes_of stack

-- the number is one of the list
abbrev pub IsListed : ℕ → List ℕ → Type 0
IsListed number [] = ⊥
IsListed number (first ∷ others) = (number ≡ first) ⊎ IsListed number others

-- the event is one of the list
abbrev pub IsAmong : Event → List Event → Type 0
IsAmong event [] = ⊥
IsAmong event (first ∷ others) = (event ≡ first) ⊎ IsAmong event others

-- the devices are of the shapes
abbrev pub HaveShapes : Devices → List Base → Type 0
HaveShapes devices shapes = map base_of_device devices ≡ shapes

-- What holds of a moment of a run that has leave to use some devices. It is not stuck. Each device that is operated
-- then or later is reached by what the moment captures, and is one of those. An exit finds its scope among those that
-- stand.
pub record IsSafeMoment (permitted : List ℕ) (now : State) : Type 0 where
  pub not_stuck : move now ≢ IsStuck
  pub reached : (later : State) (events : List Event) → Leads now events later
      → (device : ℕ) (operation : Op) (literal : Literal) → IsAmong (Operated device operation literal) events
      → SetReaches now.configuration.store (captured_set now.configuration)
      (DeviceCell device (base_operated operation))
  pub permits : (later : State) (events : List Event) → Leads now events later
      → (device : ℕ) (operation : Op) (literal : Literal) → IsAmong (Operated device operation literal) events
      → IsListed device permitted
  pub exits : (label : ℕ) (next : State) → move now ≡ Moves (Some (Exited label)) next
      → IsListed label (scopes_of now.configuration.stack)

-- What holds of the run from a state, with so much fuel, that has leave to use some devices. It does not stop before
-- its end. Each of its moments is safe. It operates no other device, and its events are well scoped.
pub record RunsSafely (permitted : List ℕ) (start : State) (fuel : ℕ) : Type 0 where
  pub not_stopped : (run fuel start).ending ≢ IsStopped
  pub moments : (now : State) (events : List Event) → Leads start events now → IsSafeMoment permitted now
  pub authority : (device : ℕ) (operation : Op) (literal : Literal)
      → IsAmong (Operated device operation literal) (run fuel start).events → IsListed device permitted
  pub well_scoped : IsWellScoped (run fuel start).events
