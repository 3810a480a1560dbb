use Rattle.std.proofs.Common.{sym, subst}
use Rattle.cc_core.specs.TermViews.{shape_of, context_of}
use Rattle.cc_known.specs.Measures.{IsClearAlong}
use Rattle.cc_check.proofs.SignedAlong.{clear_stays}
use Rattle.cc_check.proofs.signing.+signs_along.Goals as goal

pub sign_along-returns-then-steps-eq0 : goal.sign_along-returns-then-steps-eq0
sign_along-returns-then-steps-eq0 t c =
    sym
    (clear_stays c.args.devices (context_of c.args.ctx.now) (shape_of c.args.shape.now)
    (subst (λ n. IsClearAlong c.args.devices n (shape_of c.args.shape.now)) c.if-steps-eq0.true c.requires.clear))
