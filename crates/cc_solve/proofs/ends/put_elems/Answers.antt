use Rattle.std.proofs.Common.{◌∙◌}
use Rattle.std.proofs.lemmas.Iterator.Consumers.{YieldsList-from_first, YieldsList-turn, YieldsList-end}
use Rattle.cc_sets.proofs.Markings.{HasRoom-same, member_at}
use Rattle.cc_solve.proofs.Puttings.{puts_more, puts_set}
use Rattle.cc_solve.proofs.ends.put_elems.Goals as goal

pub put_elem-requires : goal.put_elem-requires
put_elem-requires c =
    let at = YieldsList-turn (YieldsList-from_first (λ x. x) (λ s. s) c.args.set.now.list (c.into_iter-elem-iterator.ensures.into_iter_gives ∙ c.iter-elem-items.ensures)) c.loop-elem.yielded _ c.loop-elem.yielded_by _ _ c.in-Some.elem c.in-Some.is c.next.ensures.steps in
    HasRoom-same c.args.marks.now c.loop-elem.marks c.in-Some.elem c.loop-elem.invariant.room
    (c.requires c.in-Some.elem (member_at c.args.set.now _ c.in-Some.elem at))

pub loop-elem-preserved : goal.loop-elem-preserved
loop-elem-preserved c =
    puts_more c.args.globals c.loop-elem.yielded c.in-Some.elem c.args.marks.now c.loop-elem.marks c.put_elem.new.marks c.args.ends.now c.loop-elem.ends c.put_elem.new.ends
    c.loop-elem.invariant c.in_ok-put_elem.ensures

pub returns : goal.returns
returns c =
    let seen = YieldsList-end (YieldsList-from_first (λ x. x) (λ s. s) c.args.set.now.list (c.into_iter-elem-iterator.ensures.into_iter_gives ∙ c.iter-elem-items.ensures)) c.loop-elem.yielded _ c.loop-elem.yielded_by _ _ c.in-None.is c.next.ensures.steps in
    puts_set c.args.globals c.args.set.now c.loop-elem.yielded c.args.marks.now c.loop-elem.marks c.args.ends.now c.loop-elem.ends seen.0 c.loop-elem.invariant
