use Rattle.std.proofs.Common.{◌≡◌, ℕ, List, Option, false, IsTrue}
use Rattle.std.specs.Io.KnownBytes.{IsAtEnd}
use Rattle.cc_item_reading.specs.ItemReading.{AreDeclared}
use Rattle.cc_line_reading.specs.LineReading.{Held}
use Rattle.cc_conversation.specs.Turns.{Talks, opening}
use Rattle.cc_conversation.proofs.conversing.hear_devices.Given as goal

abbrev pub invariant-loop : goal.invariant-loop
invariant-loop g l = record {
  talks : (start : Held) (left before written : Option (List ℕ))
      → Talks start l.initial.reader left (g.S.Source.left l.initial.source) before written l.initial.lines false (opening l.initial.devices.items)
      → Talks start l.reader left (g.S.Source.left l.source) before written l.lines false (opening l.devices.items);
  declared : AreDeclared l.devices.items;
  known : IsTrue l.reader.ended → IsAtEnd (g.S.Source.left l.source);
  no_fault : g.S.Source.faults l.source ≡ g.S.Source.faults l.initial.source;
}
