use Rattle.std.proofs.Common.{◌-◌, ◌+◌, ◌≤◌}
use Rattle.cc_machine.specs.Machines.{count_cells, held_by}
use Rattle.cc_replay.proofs.LineByLine.{StandsAt}
use Rattle.cc_replay.proofs.replaying.replay.Given as goal

abbrev pub invariant-loop-machine : goal.invariant-loop-machine
invariant-loop-machine l = record {
  stands : StandsAt l.names.names.items l.fuel (held_by l.initial.machine) l.lines l.steps l.met (held_by l.machine) l.rest;
  cells : count_cells l.machine ≤ count_cells l.initial.machine + l.steps;
}

abbrev pub decreases-loop-machine : goal.decreases-loop-machine
decreases-loop-machine l = l.fuel - l.steps
