use Rattle.std.proofs.Common.{◌∙◌}
use Rattle.std.proofs.lemmas.Iterator.Consumers.{YieldsList-from_first, YieldsList-turn, YieldsList-end}
use Rattle.cc_sets.proofs.Markings.{member_at}
use Rattle.cc_solve.specs.Solutions.{filling_of}
use Rattle.cc_solve.proofs.FilledMarkings.{filled_begin, filled_more, filled_end, filled_room}
use Rattle.cc_solve.proofs.judging.mark_filled.Goals as goal

pub loop-elem-init : goal.loop-elem-init
loop-elem-init c = filled_begin (filling_of c.args.filling.now) c.args.right.now c.args.marks.now

pub mark_filling-all-requires : goal.mark_filling-all-requires
mark_filling-all-requires c =
    let at = YieldsList-turn (YieldsList-from_first (λ x. x) (λ s. s) c.args.set.now.list (c.into_iter-elem-iterator.ensures.into_iter_gives ∙ c.iter-elem-items.ensures)) c.loop-elem.yielded _ c.loop-elem.yielded_by _ _ c.in-Some.elem c.in-Some.is c.next.ensures.steps in
    filled_room (filling_of c.args.filling.now) c.args.set.now c.args.marks.now c.loop-elem.marks c.in-Some.elem c.loop-elem.invariant.room c.requires
    (member_at c.args.set.now _ c.in-Some.elem at)

pub loop-elem-preserved : goal.loop-elem-preserved
loop-elem-preserved c =
    filled_more (filling_of c.args.filling.now) c.loop-elem.yielded c.in-Some.elem c.args.right.now c.args.marks.now c.loop-elem.marks c.mark_filling-all.new.marks c.loop-elem.all
    c.mark_filling-all.result c.loop-elem.invariant c.mark_filling-all.ensures

pub returns : goal.returns
returns c =
    let seen = YieldsList-end (YieldsList-from_first (λ x. x) (λ s. s) c.args.set.now.list (c.into_iter-elem-iterator.ensures.into_iter_gives ∙ c.iter-elem-items.ensures)) c.loop-elem.yielded _ c.loop-elem.yielded_by _ _ c.in-None.is c.next.ensures.steps in
    filled_end (filling_of c.args.filling.now) c.args.set.now c.args.right.now c.loop-elem.yielded c.args.marks.now c.loop-elem.marks c.loop-elem.all seen.0 c.loop-elem.invariant
