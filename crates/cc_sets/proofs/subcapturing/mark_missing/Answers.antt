use Rattle.std.proofs.Common.{◌∙◌}
use Rattle.std.proofs.lemmas.Iterator.Consumers.{YieldsList-from_first, YieldsList-turn, YieldsList-end}
use Rattle.cc_sets.proofs.Markings.{HasRoom-same, marks_more, marks_end, member_at}
use Rattle.cc_sets.proofs.subcapturing.mark_missing.Goals as goal

pub mark_elem-all-requires : goal.mark_elem-all-requires
mark_elem-all-requires c =
    let at = YieldsList-turn (YieldsList-from_first (λ x. x) (λ s. s) c.args.left.now.list (c.into_iter-elem-iterator.ensures.into_iter_gives ∙ c.iter-elem-items.ensures)) c.loop-elem.yielded _ c.loop-elem.yielded_by _ _ c.in-Some.elem c.in-Some.is c.next.ensures.steps in
    HasRoom-same c.args.marks.now c.loop-elem.marks c.in-Some.elem c.loop-elem.invariant.room
    (c.requires c.in-Some.elem (member_at c.args.left.now _ c.in-Some.elem at))

pub loop-elem-preserved : goal.loop-elem-preserved
loop-elem-preserved c =
    marks_more c.loop-elem.yielded c.in-Some.elem c.args.right.now c.args.marks.now c.loop-elem.marks c.mark_elem-all.new.marks c.loop-elem.all c.mark_elem-all.result
    c.loop-elem.invariant c.mark_elem-all.ensures

pub returns : goal.returns
returns c =
    let seen = YieldsList-end (YieldsList-from_first (λ x. x) (λ s. s) c.args.left.now.list (c.into_iter-elem-iterator.ensures.into_iter_gives ∙ c.iter-elem-items.ensures)) c.loop-elem.yielded _ c.loop-elem.yielded_by _ _ c.in-None.is c.next.ensures.steps in
    marks_end c.args.left.now c.args.right.now c.loop-elem.yielded c.args.marks.now c.loop-elem.marks c.loop-elem.all seen.0 c.loop-elem.invariant
