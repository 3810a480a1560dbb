use Rattle.std.proofs.Common.{◌∙◌}
use Rattle.std.proofs.lemmas.Iterator.Consumers.{YieldsList-from_first, YieldsList-end}
use Rattle.cc_core.specs.Captured.{outside}
use Rattle.cc_core.proofs.CallLemmas.{walk-begin, walk-more, walk-end}
use Rattle.cc_captured.proofs.captured.without_binder.Goals as goal

pub loop-elem-init : goal.loop-elem-init
loop-elem-init c = c.new-outer.ensures ∙ walk-begin outside

pub loop-elem-preserved : goal.loop-elem-preserved
loop-elem-preserved c = walk-more _ c.loop-elem.yielded c.in-Some.elem c.loop-elem.outer c.add_outside.new.outer c.loop-elem.invariant c.in_ok-add_outside.ensures

pub returns : goal.returns
returns c =
    let seen = YieldsList-end (YieldsList-from_first (λ x. x) (λ s. s) c.args.set.now.list (c.into_iter-elem-iterator.ensures.into_iter_gives ∙ c.iter-elem-items.ensures)) c.loop-elem.yielded _ c.loop-elem.yielded_by _ _ c.in-None.is c.next.ensures.steps in
    walk-end _ c.args.set.now c.loop-elem.yielded c.loop-elem.outer seen.0 c.loop-elem.invariant
