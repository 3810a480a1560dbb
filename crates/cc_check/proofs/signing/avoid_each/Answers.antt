use Rattle.std.proofs.Common.{sym, ◌∙◌}
use Rattle.cc_core.specs.TermViews.{context_of}
use Rattle.cc_avoid.specs.Avoiding.{sign_of}
use Rattle.cc_check.proofs.SignedTogether.{greatest_avoided, greatest_left}
use Rattle.cc_check.proofs.signing.avoid_each.Goals as goal

pub loop-position-preserved : goal.loop-position-preserved
loop-position-preserved c =
    c.loop-position.invariant
    ∙ (greatest_avoided (sign_of c.args.sign) c.args.devices (context_of c.args.ctx.now) c.in-Some.position
    c.loop-position.left c.in_ok-next.next c.requires (sym c.in-Some.ensures) c.in_ok-next.ensures).same

pub loop-position-smaller : goal.loop-position-smaller
loop-position-smaller c =
    (greatest_avoided (sign_of c.args.sign) c.args.devices (context_of c.args.ctx.now) c.in-Some.position
    c.loop-position.left c.in_ok-next.next c.requires (sym c.in-Some.ensures) c.in_ok-next.ensures).lower

pub returns : goal.returns
returns c =
    sym
    (c.loop-position.invariant
    ∙ greatest_left (sign_of c.args.sign) c.args.devices (context_of c.args.ctx.now) c.loop-position.left
    (sym c.in_default.ensures))
