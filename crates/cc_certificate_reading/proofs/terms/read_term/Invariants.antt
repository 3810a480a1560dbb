use Rattle.std.proofs.Common.{[]}
use Rattle.cc_core.specs.TermViews.{term_of}
use Rattle.cc_core.specs.Places.{places_of}
use Rattle.cc_certificate_text.specs.Reading.{Got, term_at}
use Rattle.cc_certificate_reading.specs.FirstPlaces.{AreFirst}
use Rattle.cc_certificate_reading.specs.Waiting.{Leads}
use Rattle.cc_certificate_reading.specs.WaitingTerms.{around, in_turn, IsFit}
use Rattle.cc_certificate_reading.proofs.terms.read_term.Given as goal

abbrev pub invariant-loop : goal.invariant-loop
invariant-loop l = record {
  leads :
      Leads (around l.names) IsFit [] (term_at l.names l.room l.depth l.bytes) (in_turn l.waiting.items)
      (Got (term_of l.term) l.rest);
  placed : AreFirst (places_of l.term);
}
