use Rattle.std.proofs.Common.{◌∙◌}
use Rattle.std.proofs.lemmas.Iterator.Consumers.{YieldsList-from_first, YieldsList-end}
use Rattle.cc_known.proofs.DemandEnds.{puts_begin, puts_more, puts_set}
use Rattle.cc_type.proofs.demand_ends.put_elems.Goals as goal

pub loop-elem-init : goal.loop-elem-init
loop-elem-init c = puts_begin c.args.right.now c.args.waiting.now c.args.ends.now

pub loop-elem-preserved : goal.loop-elem-preserved
loop-elem-preserved c =
    puts_more c.args.right.now c.loop-elem.yielded c.in-Some.elem c.args.waiting.now c.args.ends.now c.loop-elem.waiting
    c.loop-elem.ends c.put_elem.new.waiting c.put_elem.new.ends c.loop-elem.invariant c.in_ok-put_elem.ensures

pub returns : goal.returns
returns c =
    let seen = YieldsList-end
    (YieldsList-from_first (λ x. x) (λ s. s) c.args.set.now.list
    (c.into_iter-elem-iterator.ensures.into_iter_gives ∙ c.iter-elem-items.ensures))
    c.loop-elem.yielded _ c.loop-elem.yielded_by _ _ c.in-None.is c.next.ensures.steps in
    puts_set c.args.right.now c.args.set.now c.loop-elem.yielded c.args.waiting.now c.args.ends.now c.loop-elem.waiting
    c.loop-elem.ends seen.0 c.loop-elem.invariant
