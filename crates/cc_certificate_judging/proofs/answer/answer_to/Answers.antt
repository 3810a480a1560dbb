use Rattle.std.proofs.Common.{sym, subst, Err}
use Rattle.std.proofs.lemmas.Result.{IfOk-weaker}
use Rattle.cc_certificate_reading.specs.CertificateViews.{ReadsCertificate}
use Rattle.cc_certificate_judging.specs.ToldAnswers.{IsAnswered}
use Rattle.cc_certificate_judging.specs.declared.answer.Answer.TheVariants.{BadLine}
use Rattle.cc_certificate_judging.proofs.Answered.{bad_line_answered}
use Rattle.cc_certificate_judging.proofs.answer.answer_to.Goals as goal

pub returns-in-Ok : goal.returns-in-Ok
returns-in-Ok c =
    IfOk-weaker c.judged.result _ _ (λ answer holds. holds c.args.bytes.now c.in-Ok.ensures.read) c.judged.ensures

pub returns-in-Err-BadCert : goal.returns-in-Err-BadCert
returns-in-Err-BadCert c =
    subst (λ line. IsAnswered c.args.bytes.now (BadLine line)) (sym c.in-Err-BadCert.line-is)
    (bad_line_answered c.args.bytes.now c.in-Err-BadCert.line
    (subst (λ e. ReadsCertificate c.args.bytes.now (Err e)) c.in-Err-BadCert.field-0-is c.in-Err-BadCert.ensures.read))
