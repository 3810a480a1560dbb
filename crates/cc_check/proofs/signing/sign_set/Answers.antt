use Rattle.std.proofs.Common.{sym}
use Rattle.cc_core.specs.TermViews.{context_of}
use Rattle.cc_avoid.specs.Avoiding.{sign_of}
use Rattle.cc_check.proofs.SignedTogether.{greatest_left}
use Rattle.cc_check.proofs.signing.sign_set.Goals as goal

pub returns-in-None : goal.returns-in-None
returns-in-None c =
    sym
    (greatest_left (sign_of c.args.sign) c.args.devices (context_of c.args.ctx.now) c.args.set.now
    (sym c.in-None.ensures))
