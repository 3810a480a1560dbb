use Rattle.std.proofs.Common.{refl, codes}
use Rattle.std.proofs.lemmas.Result.{err_from_is_err_and}
use Rattle.cc_core.specs.TermViews.{term_of}
use Rattle.cc_certificate_text.specs.Reading.{exact_at}
use Rattle.cc_certificate_reading.proofs.WaitingTerms.{turn_stopped}
use Rattle.cc_certificate_reading.proofs.terms.take_turn.Goals as goal

pub returns-in_err-start-in-Rights : goal.returns-in_err-start-in-Rights
returns-in_err-start-in-Rights c =
    let error = err_from_is_err_and c.from_residual-in_err-start-in-Rights.result c.from_residual-in_err-start-in-Rights.ensures.1 in
    rw (error.1, error.2)
    (turn_stopped c.args.names.now (term_of c.args.term) c.args.bytes.now c.args.waiting.now.items c.in_err-start-in-Rights.field-0.0 _
    (exact_at (codes " in ") c.args.bytes.now) _ c.in-Rights.is refl c.in_err-start-in-Rights.ensures)

pub returns-in_err-start-in-Positives : goal.returns-in_err-start-in-Positives
returns-in_err-start-in-Positives c =
    let error = err_from_is_err_and c.from_residual-in_err-start-in-Positives.result c.from_residual-in_err-start-in-Positives.ensures.1 in
    rw (error.1, error.2)
    (turn_stopped c.args.names.now (term_of c.args.term) c.args.bytes.now c.args.waiting.now.items c.in_err-start-in-Positives.field-0.0 _
    (exact_at (codes " else ") c.args.bytes.now) _ c.in-Positives.is refl c.in_err-start-in-Positives.ensures)
