use Rattle.std.proofs.Common.{◌++◌, ◌∙◌, ap, map, codes, refl, sym, subst, Err}
use Rattle.cc_core.specs.TermViews.{type_of, term_of}
use Rattle.cc_print.specs.TypeTexts as plain
use Rattle.cc_certificate_reading.specs.CertificateViews.{node_of}
use Rattle.cc_certificate_judging.specs.JudgedResults.{OnJudgement}
use Rattle.cc_certificate_judging.specs.Judging.{binds_of, IsJudged}
use Rattle.cc_certificate_judging.specs.declared.answer.Answer.TheVariants.{Valid, BadNode}
use Rattle.cc_certificate_judging.specs.ToldAnswers.{IsAnswered}
use Rattle.cc_certificate_judging.proofs.Answered.{proof_answered, broken_answered}
use Rattle.cc_certificate_judging.proofs.answer.judged.Goals as goal

pub returns-in_ok-text_of-in-Ok : goal.returns-in_ok-text_of-in-Ok
returns-in_ok-text_of-in-Ok c =
    λ bytes is.
    proof_answered bytes c.args.cert.now is (type_of c.in-Ok.ty) (Valid c.in_ok-text_of-in-Ok.field-0) c.in-Ok.ensures.judged
    c.in-Ok.ensures.typed
    (ap (λ text. codes "valid " ++ text) (c.in_ok-text_of-in-Ok.ensures
    ∙ ap (λ binds. plain.type_text (map (λ bind. bind.0) binds) 0 (type_of c.in-Ok.ty)) c.as_slice.ensures.value)) refl

pub returns-in-Err-BadNode : goal.returns-in-Err-BadNode
returns-in-Err-BadNode c =
    λ bytes is.
    subst (λ number. IsAnswered bytes (BadNode number)) (sym c.in-Err-BadNode.number-is)
    (broken_answered bytes c.args.cert.now is c.in-Err-BadNode.number
    (subst (λ e. OnJudgement (IsJudged (binds_of c.args.cert.now) (term_of c.args.cert.now.term.value)
    (map node_of c.args.cert.now.nodes.items)) (Err e)) c.in-Err-BadNode.field-0-is c.in-Err-BadNode.ensures.judged))
