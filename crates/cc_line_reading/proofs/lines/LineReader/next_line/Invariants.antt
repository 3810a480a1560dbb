use Rattle.std.proofs.Common.{◌≡◌, ◌-◌, length, IsTrue}
use Rattle.std.specs.Io.KnownBytes.{IsAtEnd}
use Rattle.cc_line_reading.proofs.LineTurns.{Turning}
use Rattle.cc_line_reading.proofs.lines.LineReader.next_line.Given as goal

abbrev pub invariant-loop-error : goal.invariant-loop-error
invariant-loop-error g l = record {
  turning : Turning l.initial.self l.self (g.S.Source.left l.initial.source) (g.S.Source.left l.source) l.initial.line.items l.line.items l.limit;
  known : IsTrue l.self.ended → IsAtEnd (g.S.Source.left l.source);
  no_fault : g.S.Source.faults l.source ≡ g.S.Source.faults l.initial.source;
}

abbrev pub decreases-loop-error : goal.decreases-loop-error
decreases-loop-error g l = l.limit - length l.line.items
