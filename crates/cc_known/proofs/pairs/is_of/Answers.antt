use Rattle.std.proofs.Common.{sym, ◌∙◌}
use Rattle.cc_capture.proofs.Equality.{same_variable-decides}
use Rattle.cc_core.specs.TermViews.{shape_of}
use Rattle.cc_core.proofs.Comparisons.{same_shape-decides}
use Rattle.cc_known.proofs.pairs.is_of.Goals as goal

pub returns-clause-variable : goal.returns-clause-variable
returns-clause-variable c = λ holds.
    (same_variable-decides c.args.pair.now.variable c.args.variable).0 (sym c.same_var.ensures ∙ c.if-not-same_var.false)

pub returns-clause-right : goal.returns-clause-right
returns-clause-right c = λ holds.
    (same_shape-decides (shape_of c.args.pair.now.right) (shape_of c.args.right.now)).0 (sym c.same_shape.ensures ∙ holds)
