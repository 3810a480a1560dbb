use Rattle.std.proofs.lemmas.Result.{IfOk-weaker}
use Rattle.cc_core.specs.TermViews.{context_of}
use Rattle.cc_checking.specs.CanonicalDerivations as plain
use Rattle.cc_derive.proofs.MadeEnds.{let_made}
use Rattle.cc_derive.proofs.ends.let_end.Goals as goal

pub returns : goal.returns
returns c =
    IfOk-weaker c.over_two.result _ _
    (λ x h. λ m le d e p q.
    let_made c.args.build (plain.shape_derived m) x c.args.named c.in_ok-left.left (context_of c.args.ctx.now) d e p
    (c.in_ok-left.ensures m le e q) h)
    c.over_two.ensures
