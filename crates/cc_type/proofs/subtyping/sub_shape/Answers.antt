use Rattle.cc_core.specs.TermViews.{shape_of, context_of}
use Rattle.cc_checking.specs.Comparison.{comparison}
use Rattle.cc_type.specs.Comparing.{most_steps}
use Rattle.cc_type.proofs.SubtypeAnswers.{handed_compares, shapes_below, shapes_not_below}
use Rattle.cc_type.proofs.subtyping.sub_shape.Goals as goal

pub returns-clause-exact : goal.returns-clause-exact
returns-clause-exact c =
    handed_compares c.args.at (comparison most_steps (context_of c.args.ctx.now) (shape_of c.args.left.now) (shape_of c.args.right.now))
    c.in_ok-found.found c.args.demands.now c.hand_on.new.demands c.hand_on.result c.in_ok-found.ensures c.hand_on.ensures

pub returns-clause-below : goal.returns-clause-below
returns-clause-below c =
    shapes_below c.args.at (context_of c.args.ctx.now) (shape_of c.args.left.now) (shape_of c.args.right.now) c.args.demands.now
    c.hand_on.new.demands c.hand_on.result (returns-clause-exact c)

pub returns-clause-not_below : goal.returns-clause-not_below
returns-clause-not_below c =
    shapes_not_below c.args.at (context_of c.args.ctx.now) (shape_of c.args.left.now) (shape_of c.args.right.now) c.args.demands.now
    c.hand_on.new.demands c.hand_on.result (returns-clause-exact c)
