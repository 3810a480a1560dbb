use Rattle.std.proofs.lemmas.Result.{IfOk-weaker}
use Rattle.std.proofs.Common.{subst}
use Rattle.cc_capture.specs.Sets.{Set}
use Rattle.cc_core.specs.Shapes.{capturing}
use Rattle.cc_core.specs.TermViews.{shape_of, context_of}
use Rattle.cc_checking.specs.CanonicalDerivations.{shape_derived, given_derived}
use Rattle.cc_derive.specs.Trees.{IsMade}
use Rattle.cc_derive.proofs.variables.operand.Goals as goal

pub returns : goal.returns
returns c =
    IfOk-weaker c.given.result _ _
    (λ t h. λ m le.
    subst (λ (z : Set). IsMade c.args.build t (given_derived (shape_derived m) (context_of c.args.ctx.now) c.args.operand (capturing (shape_of c.args.shape.value) z)))
    c.in_ok-set.ensures (h m le))
    c.given.ensures
