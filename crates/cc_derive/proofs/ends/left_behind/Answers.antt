use Rattle.std.proofs.lemmas.Result.{IfOk-weaker}
use Rattle.cc_core.specs.TermViews.{type_of, context_of}
use Rattle.cc_checking.specs.CanonicalDerivations as plain
use Rattle.cc_derive.proofs.MadeEnds.{left_made}
use Rattle.cc_derive.proofs.ends.left_behind.Goals as goal

pub returns : goal.returns
returns c =
    IfOk-weaker c.raise_if.result _ _
    (λ x h. λ m le d p.
    left_made c.args.build (plain.shape_derived m) x c.args.part (context_of c.args.ctx.now) (context_of c.args.inner.now) (type_of c.args.named.now) (type_of c.in_ok-ty.ty) d
    c.requires c.in_ok-ty.ensures p (h m le d p))
    c.raise_if.ensures
