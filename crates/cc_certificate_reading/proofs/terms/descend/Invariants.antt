use Rattle.std.proofs.Common.{◌≤◌}
use Rattle.cc_certificate_text.specs.Reading.{term_at}
use Rattle.cc_certificate_reading.specs.Waiting.{Leads}
use Rattle.cc_certificate_reading.specs.WaitingTerms.{around, in_turn, IsFit}
use Rattle.cc_certificate_reading.proofs.terms.descend.Given as goal

abbrev pub invariant-loop-room : goal.invariant-loop-room
invariant-loop-room l = record {
  low : l.depth ≤ 4294967296;
  leads :
      Leads (around l.names) IsFit (in_turn l.fn.waiting.items) (term_at l.names l.fn.room l.fn.depth l.fn.bytes)
      (in_turn l.waiting.items) (term_at l.names l.room l.depth l.start);
}

abbrev pub decreases-loop-room : goal.decreases-loop-room
decreases-loop-room l = l.room
