use Rattle.std.proofs.Common.{true, false, Some, sym, subst, length}
use Rattle.cc_core.specs.TermViews.{type_of, context_of}
use Rattle.cc_checking.specs.Comparison.{type_comparison}
use Rattle.cc_checking.specs.Inference.{type_in}
use Rattle.cc_subty.specs.Demands.{asked_of}
use Rattle.cc_type.specs.Comparing.{most_steps, Demanded}
use Rattle.cc_known.specs.KeptWalks.{Keeps}
use Rattle.cc_known.proofs.KeptWalks.{apart_keep, types_root}
use Rattle.cc_type.proofs.SubtypeAnswers.{whole_demanded}
use Rattle.cc_known.proofs.WalkedParts.{type_standing}
use Rattle.cc_type.proofs.subtyping.types_demanded.Goals as goal

pub keep_types-requires-clause-left : goal.keep_types-requires-clause-left
keep_types-requires-clause-left c = type_standing (context_of c.args.ctx.now) (type_of c.args.left.now) c.requires.left

pub keep_types-requires-clause-right : goal.keep_types-requires-clause-right
keep_types-requires-clause-right c = type_standing (context_of c.args.ctx.now) (type_of c.args.right.now) c.requires.right

pub returns-then-branch : goal.returns-then-branch
returns-then-branch c =
    let g = context_of c.args.ctx.now in
    let left = type_of c.args.left.now in
    let right = type_of c.args.right.now in
    let was = c.new-log.result in
    let oldest = length (context_of c.new.result.base) in
    let now = c.keep_types.new.log in
    let kept =
    types_root oldest true c.args.at most_steps g left right true was.settled now.settled (asked_of c.new-2.result) (asked_of now.whole)
    c.requires.left c.requires.right
    (subst (λ m. Keeps oldest true c.args.at (type_comparison most_steps g (type_in g left) (type_in g right)) m was.settled now.settled
    (asked_of c.new-2.result) (asked_of now.whole)) c.if-branch.true c.in_ok-keep_types.ensures.kept) in
    subst (λ d. Demanded c.args.at (type_comparison most_steps g left right) (Some d)) (sym c.replace.ensures.value)
    (whole_demanded oldest c.args.at (type_comparison most_steps g left right) was.settled now.settled c.new-2.result now.whole
    c.new-2.ensures kept)

pub returns : goal.returns
returns c =
    let g = context_of c.args.ctx.now in
    let left = type_of c.args.left.now in
    let right = type_of c.args.right.now in
    let was = c.new-log.result in
    let oldest = length (context_of c.new.result.base) in
    let now = c.keep_types.new.log in
    let kept =
    types_root oldest true c.args.at most_steps g left right false was.settled now.settled (asked_of c.new-2.result) (asked_of now.whole)
    c.requires.left c.requires.right
    (subst (λ m. Keeps oldest true c.args.at (type_comparison most_steps g (type_in g left) (type_in g right)) m was.settled now.settled
    (asked_of c.new-2.result) (asked_of now.whole)) c.if-branch.false c.in_ok-keep_types.ensures.kept) in
    apart_keep oldest true c.args.at (type_comparison most_steps g left right) was.settled now.settled (asked_of c.new-2.result)
    (asked_of now.whole) kept
