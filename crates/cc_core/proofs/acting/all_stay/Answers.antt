use Rattle.std.proofs.Common.{◌∙◌}
use Rattle.std.proofs.lemmas.Iterator.Consumers.{YieldsList-from_first, YieldsList-end}
use Rattle.cc_core.specs.Actions.{action_of}
use Rattle.cc_core.proofs.CallLemmas.{stays-begin, stays-more, stays-end}
use Rattle.cc_core.proofs.acting.all_stay.Goals as goal

pub loop-elem-init : goal.loop-elem-init
loop-elem-init c = stays-begin ((action_of c.args.action.now).element c.args.depth)

pub loop-elem-preserved : goal.loop-elem-preserved
loop-elem-preserved c = stays-more _ c.loop-elem.yielded c.in-Some.elem c.loop-elem.invariant (c.stays.ensures c.if-not-stays.false)

pub returns : goal.returns
returns c =
    let seen = YieldsList-end (YieldsList-from_first (λ x. x) (λ s. s) c.args.set.now.list (c.into_iter-elem-iterator.ensures.into_iter_gives ∙ c.iter-elem-items.ensures)) c.loop-elem.yielded _ c.loop-elem.yielded_by _ _ c.in-None.is c.next.ensures.steps in
    λ _. stays-end _ c.args.set.now c.loop-elem.yielded seen.0 c.loop-elem.invariant
