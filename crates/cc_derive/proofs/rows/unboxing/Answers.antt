use Rattle.std.proofs.Common.{subst}
use Rattle.std.proofs.lemmas.Result.{IfOk-weaker}
use Rattle.cc_core.specs.TermViews.{context_of}
use Rattle.cc_core.specs.Shapes.{Shape}
use Rattle.cc_checking.specs.CanonicalDerivations as plain
use Rattle.cc_derive.specs.Typings.{IsTyping}
use Rattle.cc_derive.proofs.rows.unboxing.Goals as goal

pub returns : goal.returns
returns c =
    IfOk-weaker c.unbox.result _ _
    (λ x h. λ m le. subst (λ (y : Shape). IsTyping c.args.build x (plain.unboxing_derived (plain.shape_derived m) (context_of c.args.ctx.now) c.args.set c.args.content y)) c.in_ok-shape.ensures (h m le))
    c.unbox.ensures
