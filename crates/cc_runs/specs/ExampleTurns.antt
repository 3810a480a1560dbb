-- Whose turn it is in a schedule, by example.
use Rattle.std.specs.Prelude.{◌≡◌, ℕ, List, [], ◌∷◌, Option, Some, None}
use Rattle.std.specs.Option.{option_map}
use Rattle.cc_capture.specs.declared.var.Var.TheVariants.{Free}
use Rattle.cc_core.specs.Terms.{Application}
use Rattle.cc_runs.specs.ExamplePrograms.{number, val}
use Rattle.cc_runs.specs.Interleavings.{chosen}
use Rattle.cc_runs.specs.Machine.{Configuration, configured}

-- a task that has come to its end, one that goes on, and one that is stuck
abbrev pub at_its_end : Configuration
at_its_end = configured [] [] 0 (number 1)

abbrev pub going_on : Configuration
going_on = configured [] [] 0 (val (number 1) (number 2))

abbrev pub stuck : Configuration
stuck = configured [] [] 0 (Application (Free 0) (Free 0))

-- which of the tasks has its turn by the schedule, and the schedule after that turn
abbrev pub turn_in : List Configuration → List ℕ → Option (ℕ × List ℕ)
turn_in tasks schedule =
    option_map (λ next. (next.task, next.later)) (chosen (record { tasks = tasks; devices = [] }) schedule)

-- The first of a schedule has its turn, and goes to the end. Whoever has come to its end, or is no task, goes there
-- without a turn, before the one that has it. A stuck task has its turn too. Where all have come to their end, none
-- has a turn.
abbrev pub SchedulesAreTurned : Type 0
SchedulesAreTurned =
    (turn_in (going_on ∷ going_on ∷ going_on ∷ []) (0 ∷ 1 ∷ 2 ∷ []) ≡ Some (0, 1 ∷ 2 ∷ 0 ∷ []))
    × (turn_in (going_on ∷ going_on ∷ going_on ∷ []) (1 ∷ 2 ∷ 0 ∷ []) ≡ Some (1, 2 ∷ 0 ∷ 1 ∷ []))
    × (turn_in (at_its_end ∷ going_on ∷ going_on ∷ []) (0 ∷ 1 ∷ 2 ∷ []) ≡ Some (1, 2 ∷ 0 ∷ 1 ∷ []))
    × (turn_in (at_its_end ∷ at_its_end ∷ going_on ∷ []) (0 ∷ 1 ∷ 2 ∷ []) ≡ Some (2, 0 ∷ 1 ∷ 2 ∷ []))
    × (turn_in (going_on ∷ going_on ∷ []) (7 ∷ 1 ∷ 0 ∷ []) ≡ Some (1, 0 ∷ 7 ∷ 1 ∷ []))
    × (turn_in (stuck ∷ going_on ∷ []) (0 ∷ 1 ∷ []) ≡ Some (0, 1 ∷ 0 ∷ []))
    × (turn_in (at_its_end ∷ []) (0 ∷ 7 ∷ []) ≡ None)
