use Rattle.std.proofs.Common.{◌-◌, ◌+◌, ◌≤◌, map}
use Rattle.cc_device.specs.DeviceViews.{event_of}
use Rattle.cc_machine.specs.Machines.{count_cells, held_by}
use Rattle.cc_machine.specs.Standing.{KeepsShapes}
use Rattle.cc_runs.specs.SoundRuns.{HasShapesOfCells}
use Rattle.cc_machine.proofs.RunLemmas.{AllGoOnward}
use Rattle.cc_machine.proofs.machine.Machine.run.Given as goal

abbrev pub invariant-loop-self : goal.invariant-loop-self
invariant-loop-self l = record {
  onward : AllGoOnward l.fuel (held_by l.fn.self) l.fn.devices (map event_of l.trace.items) l.steps (held_by l.self) l.devices;
  fits : HasShapesOfCells (held_by l.self).store l.devices;
  shapes : KeepsShapes l.fn.devices l.devices;
  cells : count_cells l.self ≤ count_cells l.fn.self + l.steps;
  within : l.steps ≤ l.fuel;
}

abbrev pub decreases-loop-self : goal.decreases-loop-self
decreases-loop-self l = l.fuel - l.steps
