use Rattle.std.proofs.Common.{◌≡◌, ℕ, List, Option, Bool, false, IsTrue}
use Rattle.std.specs.Io.KnownBytes.{IsAtEnd}
use Rattle.cc_line_reading.specs.LineReading.{Held}
use Rattle.cc_conversation.specs.Conversations.{Moment}
use Rattle.cc_conversation.specs.Turns.{HearsOrder, AreAlike, IsUnderWay, moment_of}
use Rattle.cc_conversation.proofs.conversing.go_on.Given as goal

abbrev pub invariant-loop : goal.invariant-loop
invariant-loop g l = record {
  heard : (start : Held) (left before : Option (List ℕ)) (moment : Moment) → AreAlike moment (moment_of l.initial.conversation)
      → HearsOrder start l.initial.reader left (g.S.Source.left l.initial.source) before (g.K.Sink.written l.initial.sink) l.initial.lines false moment l.initial.order
      → (now : Moment) × AreAlike now (moment_of l.conversation)
      × HearsOrder start l.reader left (g.S.Source.left l.source) before (g.K.Sink.written l.sink) l.lines l.refused now l.order;
  under_way : IsUnderWay l.conversation;
  known : IsTrue l.reader.ended → IsAtEnd (g.S.Source.left l.source);
  no_read_fault : g.S.Source.faults l.source ≡ g.S.Source.faults l.initial.source;
  no_write_fault : g.K.Sink.faults l.sink ≡ g.K.Sink.faults l.initial.sink;
}
