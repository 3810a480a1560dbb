use Rattle.std.proofs.Common.{sym, ◌∙◌}
use Rattle.cc_core.specs.TermViews.{shape_of}
use Rattle.cc_core.proofs.Comparisons.{same_shape-decides}
use Rattle.cc_known.proofs.compared.is_of.Goals as goal

pub returns-clause-left : goal.returns-clause-left
returns-clause-left c = λ holds.
    (same_shape-decides (shape_of c.args.pair.now.left) (shape_of c.args.left.now)).0 (sym c.same_shape.ensures ∙ c.if-not-same_shape.false)

pub returns-clause-right : goal.returns-clause-right
returns-clause-right c = λ holds.
    (same_shape-decides (shape_of c.args.pair.now.right) (shape_of c.args.right.now)).0 (sym c.same_shape-2.ensures ∙ holds)
