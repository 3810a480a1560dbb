use Rattle.std.proofs.Common.{subst}
use Rattle.std.proofs.lemmas.Result.{IfOk-weaker}
use Rattle.cc_core.specs.TermViews.{type_of, context_of}
use Rattle.cc_core.specs.Shapes.{Shape}
use Rattle.cc_checking.specs.CanonicalDerivations as plain
use Rattle.cc_derive.specs.Typings.{IsTyping}
use Rattle.cc_derive.proofs.rows.leave.Goals as goal

pub returns : goal.returns
returns c =
    IfOk-weaker c.leave_through.result _ _
    (λ x h. λ m le. subst (λ (y : Shape). IsTyping c.args.build x (plain.exit_derived (plain.shape_derived m) (context_of c.args.ctx.now) (type_of c.args.gives) c.args.exit c.args.value y)) c.in_ok-shape.ensures (h m le))
    c.leave_through.ensures
