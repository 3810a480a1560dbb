use Rattle.std.proofs.Common.{◌≡◌, ℕ, List, Option, Bool, IsTrue}
use Rattle.std.specs.Io.KnownBytes.{IsAtEnd}
use Rattle.cc_line_reading.specs.LineReading.{Held}
use Rattle.cc_conversation.specs.Conversations.{Moment}
use Rattle.cc_conversation.specs.Turns.{Talks}
use Rattle.cc_conversation.proofs.conversing.hear_order.Given as goal

abbrev pub invariant-loop : goal.invariant-loop
invariant-loop g l = record {
  talks : (start : Held) (left before written : Option (List ℕ)) (refused : Bool) (moment : Moment)
      → Talks start l.initial.reader left (g.S.Source.left l.initial.source) before written l.initial.lines refused moment
      → Talks start l.reader left (g.S.Source.left l.source) before written l.lines refused moment;
  known : IsTrue l.reader.ended → IsAtEnd (g.S.Source.left l.source);
  no_fault : g.S.Source.faults l.source ≡ g.S.Source.faults l.initial.source;
}
