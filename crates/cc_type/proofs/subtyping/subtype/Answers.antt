use Rattle.cc_core.specs.TermViews.{type_of, context_of}
use Rattle.cc_checking.specs.Comparison.{type_comparison}
use Rattle.cc_type.specs.Comparing.{most_steps}
use Rattle.cc_type.proofs.SubtypeAnswers.{handed_compares, types_below, types_not_below}
use Rattle.cc_type.proofs.subtyping.subtype.Goals as goal

pub returns-clause-exact : goal.returns-clause-exact
returns-clause-exact c =
    handed_compares c.args.at (type_comparison most_steps (context_of c.args.ctx.now) (type_of c.args.left.now) (type_of c.args.right.now))
    c.in_ok-found.found c.args.demands.now c.hand_on.new.demands c.hand_on.result c.in_ok-found.ensures c.hand_on.ensures

pub returns-clause-below : goal.returns-clause-below
returns-clause-below c =
    types_below c.args.at (context_of c.args.ctx.now) (type_of c.args.left.now) (type_of c.args.right.now) c.args.demands.now
    c.hand_on.new.demands c.hand_on.result (returns-clause-exact c)

pub returns-clause-not_below : goal.returns-clause-not_below
returns-clause-not_below c =
    types_not_below c.args.at (context_of c.args.ctx.now) (type_of c.args.left.now) (type_of c.args.right.now) c.args.demands.now
    c.hand_on.new.demands c.hand_on.result (returns-clause-exact c)
