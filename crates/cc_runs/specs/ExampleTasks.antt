-- Interleaved runs by example.
use Rattle.std.specs.Prelude.{◌≡◌, ℕ, List, [], ◌∷◌, codes}
use Rattle.cc_base.specs.declared.literal.Base.TheVariants as bases
use Rattle.cc_capture.specs.declared.var.Var.TheVariants.{Bound}
use Rattle.cc_capture.specs.Sets.{empty}
use Rattle.cc_core.specs.Terms.{Term, Boundary, Leave}
use Rattle.cc_core.specs.Captured.{variable_set}
use Rattle.cc_core.specs.Programs.{Module, Entry}
use Rattle.cc_device.specs.Devices.{Devices, Console}
use Rattle.cc_device.specs.Events.{Event, Entered, Exited}
use Rattle.cc_runs.specs.Runs.{Ending}
use Rattle.cc_runs.specs.ExamplePrograms.{number, whole_numbers, nothing, entry_with, val, two_devices, out, hits}
use Rattle.cc_runs.specs.ExamplePrograms.{print, tick, printed, ticked, done_with_unit, done_with_number}
use Rattle.cc_runs.specs.ExamplePrograms.{out_of_fuel}
use Rattle.cc_runs.specs.ExampleEntries.{defined, functions}
use Rattle.cc_runs.specs.Interleavings.{interleaved_run}
use Rattle.cc_runs.specs.TaskLaws.{AreEntries}
use Rattle.cc_runs.specs.SafeTasks.{TaskRunsAsAlone}

-- Module m, over the console out and the counter hits:
--   def one: ((u: Unit) -> Int)^{hits} = fun (u: Unit) => hits.tick()
--   def two: ((u: Unit) -> Int)^{hits} = fun (u: Unit) => val a = hits.tick(); hits.tick()
--   def nine: ((u: Unit) -> Unit)^{out} = fun (u: Unit) => val n = 9; out.print(n)
abbrev pub ticking : Module
ticking = record {
  name = codes "m";
  imports = [];
  definitions =
      defined (codes "one") (entry_with tick) (functions nothing empty whole_numbers) (variable_set hits)
      ∷ defined (codes "two") (entry_with (val tick tick)) (functions nothing empty whole_numbers) (variable_set hits)
      ∷ defined (codes "nine") (entry_with (val (number 9) (print (Bound 0))))
      (functions nothing empty nothing) (variable_set out)
      ∷ [];
}

abbrev pub entry_named : List ℕ → List ℕ → Entry
entry_named name authority = record {
  devices = bases.Console ∷ bases.Counter ∷ [];
  modules = ticking ∷ [];
  module_name = codes "m";
  definition_name = name;
  authority = authority;
}

abbrev pub one : Entry
one = entry_named (codes "one") (1 ∷ [])

abbrev pub two : Entry
two = entry_named (codes "two") (1 ∷ [])

abbrev pub nine : Entry
nine = entry_named (codes "nine") (0 ∷ [])

-- with so much fuel, by the schedule, the programs of the entries have the trace, and the ends with the steps of each
abbrev pub RunTo : ℕ → List ℕ → List Entry → Devices → List (ℕ × Event) → List (Ending × ℕ) → Type 0
RunTo fuel schedule entries devices trace ends =
    interleaved_run fuel schedule entries devices ≡ record { trace = trace; ends = ends }

-- Two tasks share the counter: in turns, and where the second has three turns to each of the first.
abbrev pub SharedCounterRuns : Type 0
SharedCounterRuns =
    RunTo 100 (0 ∷ 1 ∷ []) (one ∷ two ∷ []) two_devices
    ((0, ticked 1) ∷ (1, ticked 2) ∷ (1, ticked 3) ∷ [])
    ((done_with_number 1, 2) ∷ (done_with_number 3, 5) ∷ [])
    × RunTo 100 (1 ∷ 1 ∷ 1 ∷ 0 ∷ []) (one ∷ two ∷ []) two_devices
    ((1, ticked 1) ∷ (1, ticked 2) ∷ (0, ticked 3) ∷ [])
    ((done_with_number 3, 2) ∷ (done_with_number 2, 5) ∷ [])

-- Two tasks that share no device have the same ends by both schedules.
abbrev pub TasksApartRun : Type 0
TasksApartRun =
    RunTo 100 (0 ∷ 1 ∷ []) (one ∷ nine ∷ []) two_devices
    ((0, ticked 1) ∷ (1, printed 9) ∷ [])
    ((done_with_number 1, 2) ∷ (done_with_unit, 3) ∷ [])
    × RunTo 100 (1 ∷ 1 ∷ 1 ∷ 0 ∷ []) (one ∷ nine ∷ []) two_devices
    ((1, printed 9) ∷ (0, ticked 1) ∷ [])
    ((done_with_number 1, 2) ∷ (done_with_unit, 3) ∷ [])

-- Fuel counts the turns of all tasks together: with one turn neither is done; with the five that they take both are,
-- since the turn of a task that has come to its end is passed over at no cost; and with four the second is not.
abbrev pub FuelIsShared : Type 0
FuelIsShared =
    RunTo 1 (0 ∷ 1 ∷ []) (one ∷ nine ∷ []) two_devices [] ((out_of_fuel, 1) ∷ (out_of_fuel, 0) ∷ [])
    × RunTo 5 (0 ∷ 1 ∷ []) (one ∷ nine ∷ []) two_devices
    ((0, ticked 1) ∷ (1, printed 9) ∷ [])
    ((done_with_number 1, 2) ∷ (done_with_unit, 3) ∷ [])
    × RunTo 4 (0 ∷ 1 ∷ []) (one ∷ nine ∷ []) two_devices
    ((0, ticked 1) ∷ [])
    ((done_with_number 1, 2) ∷ (out_of_fuel, 2) ∷ [])

-- Module m, over the console out alone:
--   def b: ((u: Unit) -> Unit)^{out} = fun (u: Unit) =>
--     val r = boundary [Int] a => val n = 4; exit [Int] (a, n); out.print(r)
abbrev pub leaves_a_boundary : Term
leaves_a_boundary =
    entry_with
    (val (Boundary whole_numbers (val (number 4) (Leave whole_numbers empty (Bound 1) (Bound 0)))) (print (Bound 0)))

abbrev pub boundary_entry : Entry
boundary_entry = record {
  devices = bases.Console ∷ [];
  modules = record {
    name = codes "m";
    imports = [];
    definitions = defined (codes "b") leaves_a_boundary (functions nothing empty nothing) (variable_set out) ∷ [];
  } ∷ [];
  module_name = codes "m";
  definition_name = codes "b";
  authority = 0 ∷ [];
}

-- Two tasks of one entry: each counts its own labels, and they go on in turns to the end.
abbrev pub BoundariesAreTheirOwn : Type 0
BoundariesAreTheirOwn =
    RunTo 100 (0 ∷ 1 ∷ []) (boundary_entry ∷ boundary_entry ∷ []) (Console [] ∷ [])
    ((0, Entered 0) ∷ (1, Entered 0) ∷ (0, Exited 0) ∷ (1, Exited 0) ∷ (0, printed 4) ∷ (1, printed 4) ∷ [])
    ((done_with_unit, 7) ∷ (done_with_unit, 7) ∷ [])

-- Both are entries over these devices, and no device is of both authorities: so each runs by every schedule, and with
-- any fuel, as it does alone.
abbrev pub OneAndNineAreEntries : Type 0
OneAndNineAreEntries = AreEntries (one ∷ nine ∷ []) two_devices

abbrev pub OneAndNineRunAsAlone : Type 0
OneAndNineRunAsAlone =
    (schedule : List ℕ) (fuel : ℕ)
    → TaskRunsAsAlone (interleaved_run fuel schedule (one ∷ nine ∷ []) two_devices) two_devices 0 one
    × TaskRunsAsAlone (interleaved_run fuel schedule (one ∷ nine ∷ []) two_devices) two_devices 1 nine
