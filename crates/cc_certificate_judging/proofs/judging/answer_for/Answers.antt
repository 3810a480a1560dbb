use Rattle.std.proofs.Common.{ap, ◌∙◌}
use Rattle.cc_core.specs.TermViews.{term_of, context_of}
use Rattle.cc_derivation.specs.DerivationViews.{der_of, claim_of}
use Rattle.cc_derivation.specs.declared.derivation.Der.{Der}
use Rattle.cc_certificate_judging.proofs.JudgedAnswers.{whole_concludes}
use Rattle.cc_certificate_judging.proofs.judging.answer_for.Goals as goal

pub concluded-requires : goal.concluded-requires
concluded-requires c =
    let w = whole_concludes (context_of c.args.ctx.now) (term_of c.args.term.now.value) (der_of c.args.der.now.value) c.in-Ok.ensures.whole in
    (w.0, ap (λ (d : Der). claim_of d.claim) c.deref.ensures ∙ w.1)
