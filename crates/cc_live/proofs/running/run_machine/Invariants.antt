use Rattle.std.proofs.Common.{◌≡◌, ◌-◌, ◌+◌, ◌≤◌, IsTrue}
use Rattle.std.specs.Io.KnownBytes.{IsAtEnd}
use Rattle.std.specs.String.{string_bytes}
use Rattle.cc_live.proofs.TakenTurns.{StandsAt}
use Rattle.cc_live.proofs.running.run_machine.Given as goal
use Rattle.cc_machine.specs.Machines.{count_cells, held_by}

-- where the run stands; the machine has the room that it needs, and nothing failed
abbrev pub invariant-loop-machine : goal.invariant-loop-machine
invariant-loop-machine g l = record {
  stands : StandsAt l.names.names.items l.fuel (held_by l.initial.machine) l.initial.reader l.reader (g.S.Source.left l.initial.source)
      (g.S.Source.left l.source) l.initial.lines l.lines (g.K.Sink.written l.initial.sink) (g.K.Sink.written l.sink) (string_bytes l.waiting) l.steps
      (held_by l.machine);
  cells : count_cells l.machine ≤ count_cells l.initial.machine + l.steps;
  known : IsTrue l.reader.ended → IsAtEnd (g.S.Source.left l.source);
  reads : g.S.Source.faults l.source ≡ g.S.Source.faults l.initial.source;
  writes : g.K.Sink.faults l.sink ≡ g.K.Sink.faults l.initial.sink;
}

abbrev pub decreases-loop-machine : goal.decreases-loop-machine
decreases-loop-machine g l = l.fuel - l.steps
