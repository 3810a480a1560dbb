use Rattle.std.proofs.Common.{◌-◌, ◌∙◌, arith}
use Rattle.std.proofs.lemmas.Result.{err_from_is_err_and}
use Rattle.cc_certificate_reading.specs.WaitingTerms.{in_turn}
use Rattle.cc_certificate_reading.proofs.TermRooms.{term_above, term_nowhere}
use Rattle.cc_certificate_reading.proofs.Waiting.{leads_to, leads_wrong}
use Rattle.cc_certificate_reading.proofs.WaitingTerms.{down_further, descends_stopped}
use Rattle.cc_certificate_reading.proofs.terms.descend.Goals as goal

pub returns-in_err-beginning : goal.returns-in_err-beginning
returns-in_err-beginning c =
    let error = err_from_is_err_and c.from_residual.result c.from_residual.ensures.1 in
    rw (error.1, error.2)
    (descends_stopped c.args.names.now (c.loop-room.room - 1) _ (in_turn c.loop-room.waiting.items) c.in_err-beginning.field-0.0
    c.loop-room.invariant.leads (term_above c.args.names.now c.loop-room.room c.loop-room.depth _ (omega arith)) c.in_err-beginning.ensures)

pub returns-in-Whole : goal.returns-in-Whole
returns-in-Whole c =
    let whole = rw c.in-Whole.is at c.in_ok-beginning.ensures in
    (leads_to c.loop-room.invariant.leads (term_above c.args.names.now c.loop-room.room c.loop-room.depth _ (omega arith) ∙ whole.0), whole.1)

pub loop-room-preserved : goal.loop-room-preserved
loop-room-preserved c =
    let begins = rw c.in-Waits.is at c.in_ok-beginning.ensures in
    record {
      low = begins.2;
      leads =
          down_further c.args.names.now c.loop-room.waiting.items c.in-Waits.next _ c.loop-room.invariant.leads
          (term_above c.args.names.now c.loop-room.room c.loop-room.depth _ (omega arith)) c.in_ok-push-in-Waits.ensures.items begins.0 begins.1;
    }

pub returns : goal.returns
returns c =
    leads_wrong c.loop-room.invariant.leads (term_nowhere c.args.names.now c.loop-room.room c.loop-room.depth _ (omega arith))
