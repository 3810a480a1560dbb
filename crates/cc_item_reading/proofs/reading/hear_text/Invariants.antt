use Rattle.std.proofs.Common.{◌≡◌, IsTrue}
use Rattle.std.specs.Io.KnownBytes.{IsAtEnd}
use Rattle.cc_item_reading.proofs.Hearing.{Reading}
use Rattle.cc_item_reading.proofs.reading.hear_text.Given as goal

abbrev pub invariant-loop : goal.invariant-loop
invariant-loop g l = record {
  reading : Reading l.initial.reader l.reader (g.S.Source.left l.initial.source) (g.S.Source.left l.source) l.counter l.room l.initial.lines l.lines l.text.items;
  known : IsTrue l.reader.ended → IsAtEnd (g.S.Source.left l.source);
  no_fault : g.S.Source.faults l.source ≡ g.S.Source.faults l.initial.source;
}
