use Rattle.std.proofs.Common.{◌+◌, ◌-◌, ◌<◌}
use Rattle.cc_machine.specs.Machines.{count_cells, held_by}
use Rattle.cc_runs.specs.SoundRuns.{HasShapesOfCells}
use Rattle.cc_tests_calls.proofs.stepping.stepped.Given as goal

abbrev pub invariant-loop-call : goal.invariant-loop-call
invariant-loop-call l = record {
  positions : count_cells l.machine + (l.calls - l.call) < 4294967295;
  fits : HasShapesOfCells (held_by l.machine).store l.devices;
}

abbrev pub invariant-loop-event : goal.invariant-loop-event
invariant-loop-event l = Unit {0}
