use Rattle.std.proofs.Common.{◌≡◌, IsTrue}
use Rattle.std.specs.Io.KnownBytes.{IsAtEnd}
use Rattle.cc_item_reading.proofs.Hearing.{ReadingRules}
use Rattle.cc_item_reading.proofs.reading.hear_rules.Given as goal

abbrev pub invariant-loop : goal.invariant-loop
invariant-loop g l = record {
  reading : ReadingRules l.initial.reader l.reader (g.S.Source.left l.initial.source) (g.S.Source.left l.source) l.counter l.room l.initial.lines l.lines l.bytes.items l.rules.items;
  known : IsTrue l.reader.ended → IsAtEnd (g.S.Source.left l.source);
  no_fault : g.S.Source.faults l.source ≡ g.S.Source.faults l.initial.source;
}
