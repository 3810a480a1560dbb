use Rattle.std.proofs.Common.{true, subst}
use Rattle.cc_core.specs.Shapes.{CapturingType}
use Rattle.cc_core.specs.TermViews.{shape_of, type_of, context_of}
use Rattle.cc_checking.specs.Comparison.{comparison}
use Rattle.cc_subty.specs.Demands.{asked_of}
use Rattle.cc_type.specs.Comparing.{most_steps}
use Rattle.cc_mismatch.specs.Descents.{IsMatched}
use Rattle.cc_mismatch.proofs.LeadingParts.{pure_formed, matched}
use Rattle.cc_mismatch.proofs.descent.matches.Goals as goal

pub below-requires-clause-left : goal.below-requires-clause-left
below-requires-clause-left c =
    pure_formed (context_of c.args.ctx.now) (shape_of c.args.left.now.value) (type_of c.in_ok-left.left) c.in_ok-left.ensures c.requires.left

pub below-requires-clause-right : goal.below-requires-clause-right
below-requires-clause-right c =
    pure_formed (context_of c.args.ctx.now) (shape_of c.args.right.now.value) (type_of c.in_ok-right.right) c.in_ok-right.ensures c.requires.right

pub returns-in-Ok : goal.returns-in-Ok
returns-in-Ok c =
    let g = context_of c.args.ctx.now in
    let l = type_of c.in_ok-left.left in
    let r = type_of c.in_ok-right.right in
    let is = matched (record { line = 0; col = 0 }) g l r (asked_of c.new-log.result.demands) (asked_of c.below.new.log.demands)
    (comparison most_steps g l.shape r.shape) c.in-Ok.field-0 c.in-Ok.ensures in
    subst (λ (t : CapturingType). IsMatched (comparison most_steps g t.shape (shape_of c.args.right.now.value)) true) c.in_ok-left.ensures
    (subst (λ (t : CapturingType). IsMatched (comparison most_steps g l.shape t.shape) true) c.in_ok-right.ensures is)
