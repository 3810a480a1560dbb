use Rattle.std.proofs.Common.{true, false, subst}
use Rattle.cc_core.specs.TermViews.{shape_of, type_of, context_of}
use Rattle.cc_checking.specs.Comparison.{demanded, comparison, type_comparison}
use Rattle.cc_checking.specs.Inference as plain
use Rattle.cc_type.specs.Comparing.{most_steps}
use Rattle.cc_subty.specs.Demands.{asked_of}
use Rattle.cc_known.specs.ComparedPairs.{IsKept}
use Rattle.cc_known.specs.Logs.{after}
use Rattle.cc_type.specs.Rows.{comparing}
use Rattle.cc_known.proofs.KeptWalks.{matched_after, apart_after, refused_met, types_keep}
use Rattle.cc_known.proofs.RememberedPairs.{untrue}
use Rattle.cc_type.proofs.OneShape.{formed_set}
use Rattle.cc_type.proofs.comparing.below.Goals as goal

pub keep_below-requires-clause-left : goal.keep_below-requires-clause-left
keep_below-requires-clause-left c = formed_set (context_of c.args.ctx.now) (type_of c.args.left.now) c.requires.left

pub returns-then-branch : goal.returns-then-branch
returns-then-branch c =
    let g = context_of c.args.ctx.now in
    let left = type_of c.args.left.now in
    let right = type_of c.args.right.now in
    let log = asked_of c.args.log.now.demands in
    let mid = asked_of c.keep_below.new.log.demands in
    let more = asked_of c.matching.new.log.demands in
    matched_after 0 c.args.at (type_comparison most_steps g left right) false false log more
    (types_keep 0 false c.args.at (demanded g left.set right.set) (comparison most_steps g left.shape right.shape) true false false
    false log mid more c.in_ok-keep_below.ensures.kept (λ e. absurd (untrue e)) (λ e. absurd (untrue e))
    (subst (λ m. IsKept c.args.at (comparison most_steps g left.shape right.shape) m mid more) c.if-branch.true
    (subst (λ r. IsKept c.args.at (comparison most_steps g left.shape (shape_of r)) c.in_ok-matching.field-0 mid more) c.deref-2.ensures
    (subst (λ l. IsKept c.args.at (comparison most_steps g (shape_of l) (shape_of c.deref-2.result.now)) c.in_ok-matching.field-0 mid more)
    c.deref.ensures c.in_ok-matching.ensures))))

pub returns-else-branch : goal.returns-else-branch
returns-else-branch c =
    let g = context_of c.args.ctx.now in
    let left = type_of c.args.left.now in
    let right = type_of c.args.right.now in
    let log = asked_of c.args.log.now.demands in
    let mid = asked_of c.keep_below.new.log.demands in
    let more = asked_of c.matching.new.log.demands in
    refused_met more c.refused.result c.args.at (after log (plain.below comparing c.args.at g left right)) c.refused.ensures
    (apart_after 0 c.args.at (type_comparison most_steps g left right) false false log more
    (types_keep 0 false c.args.at (demanded g left.set right.set) (comparison most_steps g left.shape right.shape) false false false
    false log mid more c.in_ok-keep_below.ensures.kept (λ e. absurd (untrue e)) (λ e. absurd (untrue e))
    (subst (λ m. IsKept c.args.at (comparison most_steps g left.shape right.shape) m mid more) c.if-branch.false
    (subst (λ r. IsKept c.args.at (comparison most_steps g left.shape (shape_of r)) c.in_ok-matching.field-0 mid more) c.deref-2.ensures
    (subst (λ l. IsKept c.args.at (comparison most_steps g (shape_of l) (shape_of c.deref-2.result.now)) c.in_ok-matching.field-0 mid more)
    c.deref.ensures c.in_ok-matching.ensures)))))
