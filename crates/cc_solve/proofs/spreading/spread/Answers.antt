use Rattle.std.proofs.Common.{◌∙◌, subst, arith}
use Rattle.std.proofs.lemmas.Iterator.Consumers.{YieldsList-from_first, YieldsList-turn, YieldsList-end}
use Rattle.cc_capture.specs.Sets.{Member}
use Rattle.cc_sets.proofs.Markings.{member_at}
use Rattle.cc_solve.specs.Spreading.{Spreads}
use Rattle.cc_solve.proofs.Additions.{listed_member}
use Rattle.cc_solve.proofs.Saturation.{spreads_more}
use Rattle.cc_solve.proofs.spreading.spread.Goals as goal

pub spread_to-requires-clause-within : goal.spread_to-requires-clause-within
spread_to-requires-clause-within c = λ hole is.
    let at = YieldsList-turn (YieldsList-from_first (λ x. x) (λ s. s) c.args.flow.now.list (c.into_iter-elem-iterator.ensures.into_iter_gives ∙ c.iter-elem-items.ensures)) c.loop-elem.yielded _ c.loop-elem.yielded_by _ _ c.in-Some.elem c.in-Some.is c.next.ensures.steps in
    let here = c.requires.within hole (subst (λ e. Member e c.args.flow.now) is (member_at c.args.flow.now _ c.in-Some.elem at)) in
    omega (arith, here, c.loop-elem.invariant.adds.room)

pub loop-elem-preserved : goal.loop-elem-preserved
loop-elem-preserved c =
    spreads_more c.args.from c.loop-elem.yielded c.in-Some.elem c.args.sets.now c.loop-elem.sets c.spread_to.new.sets c.args.queue.now.items c.loop-elem.queue.items c.spread_to.new.queue.items
    c.loop-elem.invariant c.in_ok-spread_to.ensures

pub returns : goal.returns
returns c =
    let seen = YieldsList-end (YieldsList-from_first (λ x. x) (λ s. s) c.args.flow.now.list (c.into_iter-elem-iterator.ensures.into_iter_gives ∙ c.iter-elem-items.ensures)) c.loop-elem.yielded _ c.loop-elem.yielded_by _ _ c.in-None.is c.next.ensures.steps in
    listed_member c.args.flow.now c.loop-elem.yielded seen.0
    (λ Fact. Spreads c.args.from Fact c.args.sets.now c.loop-elem.sets c.args.queue.now.items c.loop-elem.queue.items) c.loop-elem.invariant
