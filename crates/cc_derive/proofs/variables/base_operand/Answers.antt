use Rattle.std.proofs.Common.{ap, subst}
use Rattle.std.proofs.lemmas.Result.{IfOk-weaker}
use Rattle.cc_core.specs.Shapes.{Shape}
use Rattle.cc_core.specs.TermViews.{shape_of, context_of}
use Rattle.cc_checking.specs.CanonicalDerivations.{shape_derived, operand_derived}
use Rattle.cc_derive.specs.Trees.{IsMade}
use Rattle.cc_derive.proofs.variables.base_operand.Goals as goal

pub returns : goal.returns
returns c =
    IfOk-weaker c.operand.result _ _
    (λ t h. λ m le.
    subst (λ (s : Shape). IsMade c.args.build t (operand_derived (shape_derived m) (context_of c.args.ctx.now) c.args.variable s))
    (ap shape_of c.in_ok-shape.ensures.ok) (h m le))
    c.operand.ensures
