use Rattle.std.proofs.Common.{sym, ◌∙◌}
use Rattle.cc_core.specs.TermViews.{type_of, context_of}
use Rattle.cc_check.proofs.SignedTogether.{signature_together}
use Rattle.cc_check.proofs.signature.signature.Goals as goal

pub returns : goal.returns
returns c =
    c.in_ok-signed.ensures
    ∙ sym (signature_together c.args.devices (context_of c.args.ctx.now) (type_of c.args.ty.now))
