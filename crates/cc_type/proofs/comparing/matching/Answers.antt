use Rattle.cc_core.specs.TermViews.{shape_of, context_of}
use Rattle.cc_checking.specs.Comparison.{comparison}
use Rattle.cc_type.specs.Comparing.{most_steps}
use Rattle.cc_subty.specs.Demands.{asked_of}
use Rattle.cc_type.proofs.FormsAlone.{root_passes, kept_behind}
use Rattle.cc_type.proofs.OneShape.{none_asked}
use Rattle.cc_type.proofs.comparing.matching.Goals as goal

pub returns-then-leads_to : goal.returns-then-leads_to
returns-then-leads_to c =
    none_asked c.args.at (comparison most_steps (context_of c.args.ctx.now) (shape_of c.args.left.now) (shape_of c.args.right.now))
    (asked_of c.args.log.now.demands) (c.leads_to.ensures c.if-leads_to.true)

pub returns-then-match_behind : goal.returns-then-match_behind
returns-then-match_behind c =
    let g = context_of c.args.ctx.now in
    let left = shape_of c.args.left.now in
    let right = shape_of c.args.right.now in
    kept_behind c.args.at (comparison most_steps g left right) (asked_of c.args.log.now.demands)
    (c.match_behind.ensures.lost c.if-match_behind.true)
    (root_passes most_steps g left right c.requires.left c.requires.right
    (c.match_behind.ensures.forms c.if-match_behind.true g))
