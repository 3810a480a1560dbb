-- Stores with the functions of a chain, each of which calls the one before it with its own number added, and what such
-- a call does.
use Rattle.std.specs.Prelude.{◌≡◌, ℕ, zero, suc, ◌+◌, ◌<◌, pos, List, [], ◌∷◌, Some, None}
use Rattle.cc_base.specs.Literals.{UnitLiteral, NumberLiteral}
use Rattle.cc_base.specs.declared.literal.Base.TheVariants as bases
use Rattle.cc_base.specs.declared.literal.Op.TheVariants as operations
use Rattle.cc_base.specs.declared.literal.Operator.TheVariants as operators
use Rattle.cc_capture.specs.declared.var.Var.TheVariants.{Bound, Free}
use Rattle.cc_capture.specs.Sets.{Set}
use Rattle.cc_core.specs.Contexts.{lookup}
use Rattle.cc_core.specs.Shapes.{Shape}
use Rattle.cc_core.specs.Stores.{ValueCell, DeviceCell, Store}
use Rattle.cc_core.specs.Terms.{Absent, Term, LiteralTerm, FunctionTerm, Application, Let, Primitive, Operation}
use Rattle.cc_device.specs.Devices.{Console, Counter, Devices}
use Rattle.cc_device.specs.Endings.{ShownLiteral}
use Rattle.cc_device.specs.Events.{Event, Operated}
use Rattle.cc_runs.specs.Answers.{shown}
use Rattle.cc_runs.specs.Interleavings.{state_of}
use Rattle.cc_runs.specs.Machine.{configured}
use Rattle.cc_runs.specs.Runs.{State, IsFinal, move, LeadsIn}

-- the console and the counter, as they begin
abbrev pub console_and_counter : Devices
console_and_counter = Console [] ∷ Counter (pos 0) ∷ []

-- val n = hits.tick(); out.print(x)
abbrev pub counting_body : Term
counting_body =
    Let Absent (Operation operations.Tick (Free 1) None) (Operation operations.Print (Free 0) (Some (Bound 1)))

-- the function at a position is called with the number added
abbrev pub adding_body : ℕ → ℕ → Term
adding_body number function =
    Let Absent
    (Let Absent (LiteralTerm (NumberLiteral (pos number))) (Primitive operators.Add (Bound 1) (Bound 0)))
    (Application (Free function) (Bound 0))

-- the function at a position is called with the number
abbrev pub starting_body : ℕ → ℕ → Term
starting_body number function =
    Let Absent (LiteralTerm (NumberLiteral (pos number))) (Application (Free function) (Bound 0))

-- a function with the body stands at the position
abbrev pub HasFunction : Store → ℕ → Term → Type 0
HasFunction store position body =
    (takes : Shape) × (set : Set) × (lookup store position ≡ Some (ValueCell (FunctionTerm takes set body)))

-- the number stands at the position
abbrev pub HasNumber : Store → ℕ → ℕ → Type 0
HasNumber store position number = lookup store position ≡ Some (ValueCell (LiteralTerm (NumberLiteral (pos number))))

-- The store has the console and the counter, and behind them the functions of the chain up to a number: the first one
-- counts and prints, and each other one adds its number and calls the one before it.
pub record HasChain (store : Store) (count : ℕ) : Type 0 where
  pub out : lookup store 0 ≡ Some (DeviceCell 0 bases.Console)
  pub hits : lookup store 1 ≡ Some (DeviceCell 1 bases.Counter)
  pub first : HasFunction store 2 counting_body
  pub others : (before : ℕ) → suc before < count
      → HasFunction store (suc (suc (suc before))) (adding_body (suc (suc before)) (suc (suc before)))

-- the function at a position is applied to what stands at another
abbrev pub applying : Store → ℕ → ℕ → State
applying store function argument =
    state_of console_and_counter (configured store [] 0 (Application (Free function) (Free argument)))

-- so many calls before the last one add their numbers, from the greatest down to 2
abbrev pub added : ℕ → ℕ → ℕ
added number zero = number
added number (suc before) = added (number + suc (suc before)) before

-- so many calls take so many steps
abbrev pub steps_of : ℕ → ℕ
steps_of zero = 0
steps_of (suc calls) = suc (suc (suc (suc (suc (steps_of calls)))))

-- the counter counts, and then the console prints the number
abbrev pub counted_and_printed : ℕ → List Event
counted_and_printed number =
    Operated 1 operations.Tick (NumberLiteral (pos 1)) ∷ Operated 0 operations.Print (NumberLiteral (pos number)) ∷ []

-- so many steps lead from the state to the end with unit, and these events come about
pub record Finishes (steps : ℕ) (state : State) (events : List Event) : Type 0 where
  pub last : State
  pub leads : LeadsIn steps state events last
  pub final : move last ≡ IsFinal
  pub shows : shown last.configuration ≡ Some (ShownLiteral UnitLiteral)
