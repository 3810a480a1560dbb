use Rattle.std.proofs.Common.{true, false, Some, sym, subst, length}
use Rattle.cc_core.specs.TermViews.{shape_of, context_of}
use Rattle.cc_checking.specs.Comparison.{comparison}
use Rattle.cc_checking.specs.Inference.{shape_in}
use Rattle.cc_subty.specs.Demands.{asked_of}
use Rattle.cc_type.specs.Comparing.{most_steps, Demanded}
use Rattle.cc_known.specs.KeptWalks.{Keeps}
use Rattle.cc_known.proofs.KeptWalks.{apart_keep, shapes_root}
use Rattle.cc_type.proofs.SubtypeAnswers.{whole_demanded}
use Rattle.cc_known.proofs.WalkedParts.{shape_standing}
use Rattle.cc_type.proofs.subtyping.shapes_demanded.Goals as goal

pub keep_shapes-requires-clause-left : goal.keep_shapes-requires-clause-left
keep_shapes-requires-clause-left c = shape_standing (context_of c.args.ctx.now) (shape_of c.args.left.now) c.requires.left

pub keep_shapes-requires-clause-right : goal.keep_shapes-requires-clause-right
keep_shapes-requires-clause-right c = shape_standing (context_of c.args.ctx.now) (shape_of c.args.right.now) c.requires.right

pub returns-then-branch : goal.returns-then-branch
returns-then-branch c =
    let g = context_of c.args.ctx.now in
    let left = shape_of c.args.left.now in
    let right = shape_of c.args.right.now in
    let was = c.new-log.result in
    let oldest = length (context_of c.new.result.base) in
    let now = c.keep_shapes.new.log in
    let kept =
    shapes_root oldest true c.args.at most_steps g left right true was.settled now.settled (asked_of c.new-2.result) (asked_of now.whole)
    c.requires.left c.requires.right
    (subst (λ m. Keeps oldest true c.args.at (comparison most_steps g (shape_in g left) (shape_in g right)) m was.settled now.settled
    (asked_of c.new-2.result) (asked_of now.whole)) c.if-branch.true c.in_ok-keep_shapes.ensures.kept) in
    subst (λ d. Demanded c.args.at (comparison most_steps g left right) (Some d)) (sym c.replace.ensures.value)
    (whole_demanded oldest c.args.at (comparison most_steps g left right) was.settled now.settled c.new-2.result now.whole
    c.new-2.ensures kept)

pub returns : goal.returns
returns c =
    let g = context_of c.args.ctx.now in
    let left = shape_of c.args.left.now in
    let right = shape_of c.args.right.now in
    let was = c.new-log.result in
    let oldest = length (context_of c.new.result.base) in
    let now = c.keep_shapes.new.log in
    let kept =
    shapes_root oldest true c.args.at most_steps g left right false was.settled now.settled (asked_of c.new-2.result) (asked_of now.whole)
    c.requires.left c.requires.right
    (subst (λ m. Keeps oldest true c.args.at (comparison most_steps g (shape_in g left) (shape_in g right)) m was.settled now.settled
    (asked_of c.new-2.result) (asked_of now.whole)) c.if-branch.false c.in_ok-keep_shapes.ensures.kept) in
    apart_keep oldest true c.args.at (comparison most_steps g left right) was.settled now.settled (asked_of c.new-2.result)
    (asked_of now.whole) kept
