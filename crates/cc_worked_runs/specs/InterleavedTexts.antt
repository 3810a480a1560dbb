-- Texts that run interleaved, by example.
use Rattle.std.specs.Prelude.{ℕ, List, [], ◌∷◌, codes}
use Rattle.cc_runs.specs.ExamplePrograms.{ticked, done_with_number, done_with_unit, out_of_fuel}
use Rattle.cc_runs.specs.Runs.{IsStopped}
use Rattle.cc_worked_runs.specs.TextRuns.{TextsRunTo, main_with}

-- a program that operates the counter at its third and at its fifth step, which is its last
abbrev pub ticks_twice : List ℕ
ticks_twice = main_with (codes "val a = hits.tick(); hits.tick()")

-- Three of these programs have their turns one after the other, again and again, as the order of their answers shows;
-- and in another order by another schedule.
abbrev pub SchedulesAreTurned : Type 0
SchedulesAreTurned =
    TextsRunTo 100 (0 ∷ 1 ∷ 2 ∷ []) (ticks_twice ∷ ticks_twice ∷ ticks_twice ∷ [])
    ((0, ticked 1) ∷ (1, ticked 2) ∷ (2, ticked 3) ∷ (0, ticked 4) ∷ (1, ticked 5) ∷ (2, ticked 6) ∷ [])
    ((done_with_number 4, 5) ∷ (done_with_number 5, 5) ∷ (done_with_number 6, 5) ∷ [])
    × TextsRunTo 100 (2 ∷ 0 ∷ 1 ∷ 0 ∷ []) (ticks_twice ∷ ticks_twice ∷ ticks_twice ∷ [])
    ((0, ticked 1) ∷ (2, ticked 2) ∷ (0, ticked 3) ∷ (1, ticked 4) ∷ (2, ticked 5) ∷ (1, ticked 6) ∷ [])
    ((done_with_number 3, 5) ∷ (done_with_number 6, 5) ∷ (done_with_number 5, 5) ∷ [])

-- Who has come to its end is passed over, and the others keep their order.
abbrev pub EndedTasksArePassedOver : Type 0
EndedTasksArePassedOver =
    TextsRunTo 100 (0 ∷ 1 ∷ 2 ∷ []) (main_with (codes "u") ∷ ticks_twice ∷ ticks_twice ∷ [])
    ((1, ticked 1) ∷ (2, ticked 2) ∷ (1, ticked 3) ∷ (2, ticked 4) ∷ [])
    ((done_with_unit, 1) ∷ (done_with_number 3, 5) ∷ (done_with_number 4, 5) ∷ [])

-- Where one of three tasks is stuck at its turn, the whole run ends there: one that had come to its end keeps it, and
-- one that had not is told to be out of fuel, after the steps that it had taken, though fuel is left.
abbrev pub AStuckTaskStopsAll : Type 0
AStuckTaskStopsAll =
    TextsRunTo 100 (0 ∷ 1 ∷ 2 ∷ [])
    (main_with (codes "val a = hits.tick(); 5(u)")
    ∷ main_with (codes "val a = hits.tick(); val b = hits.tick(); hits.tick()")
    ∷ main_with (codes "hits.tick()")
    ∷ [])
    ((2, ticked 1) ∷ (0, ticked 2) ∷ (1, ticked 3) ∷ [])
    ((IsStopped, 5) ∷ (out_of_fuel, 5) ∷ (done_with_number 1, 2) ∷ [])
