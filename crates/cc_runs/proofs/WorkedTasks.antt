-- Interleaved runs, by computation.
use Rattle.std.proofs.Common.{refl}
use Rattle.std.specs.Int.{int_wrap}
use Rattle.cc_capture.specs.Rising.{placed}
use Rattle.cc_capture.specs.Sets.{empty, insert, from_list, flat_image}
use Rattle.cc_runs.specs.ExampleEntries.{MainIsLinked, MainRuns, ModulesStandInOrder}
use Rattle.cc_runs.specs.ExampleTurns.{SchedulesAreTurned}
use Rattle.cc_runs.specs.ExampleTasks.{SharedCounterRuns, TasksApartRun, FuelIsShared, BoundariesAreTheirOwn}

pub main_is_linked : MainIsLinked
unfolding empty insert from_list flat_image placed
main_is_linked = (refl, refl)

pub main_runs : MainRuns
unfolding int_wrap
main_runs = (refl, refl, refl)

pub modules_stand_in_order : ModulesStandInOrder
unfolding lib.Utf8.encode
modules_stand_in_order = (refl, refl, refl, refl, refl)

pub shared_counter_runs : SharedCounterRuns
unfolding int_wrap
shared_counter_runs = (refl, refl)

pub tasks_apart_run : TasksApartRun
unfolding int_wrap
tasks_apart_run = (refl, refl)

pub fuel_is_shared : FuelIsShared
unfolding int_wrap
fuel_is_shared = (refl, refl, refl)

pub boundaries_are_their_own : BoundariesAreTheirOwn
unfolding int_wrap
boundaries_are_their_own = refl

pub schedules_are_turned : SchedulesAreTurned
schedules_are_turned = (refl, refl, refl, refl, refl, refl, refl)
