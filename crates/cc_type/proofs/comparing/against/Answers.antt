use Rattle.std.proofs.Common.{false, subst}
use Rattle.cc_core.specs.TermViews.{shape_of, context_of}
use Rattle.cc_checking.specs.Comparison.{comparison}
use Rattle.cc_checking.specs.Inference as plain
use Rattle.cc_type.specs.Comparing.{most_steps}
use Rattle.cc_subty.specs.Demands.{asked_of}
use Rattle.cc_known.specs.ComparedPairs.{IsKept}
use Rattle.cc_known.specs.Logs.{after}
use Rattle.cc_type.specs.Rows.{comparing}
use Rattle.cc_known.proofs.KeptWalks.{matched_after, apart_after, refused_met}
use Rattle.cc_type.proofs.comparing.against.Goals as goal

pub returns-then-branch : goal.returns-then-branch
returns-then-branch c =
    let compared = comparison most_steps (context_of c.args.ctx.now) (shape_of c.args.left.now) (shape_of c.args.right.now) in
    let log = asked_of c.args.log.now.demands in
    let more = asked_of c.matching.new.log.demands in
    matched_after 0 c.args.at compared false false log more
    (subst (λ m. IsKept c.args.at compared m log more) c.if-branch.true c.in_ok-matching.ensures)

pub returns-else-branch : goal.returns-else-branch
returns-else-branch c =
    let g = context_of c.args.ctx.now in
    let left = shape_of c.args.left.now in
    let right = shape_of c.args.right.now in
    let log = asked_of c.args.log.now.demands in
    let more = asked_of c.matching.new.log.demands in
    refused_met more c.refused.result c.args.at (after log (plain.against comparing c.args.at g left right)) c.refused.ensures
    (apart_after 0 c.args.at (comparison most_steps g left right) false false log more
    (subst (λ m. IsKept c.args.at (comparison most_steps g left right) m log more) c.if-branch.false c.in_ok-matching.ensures))
