use Rattle.std.proofs.Common.{◌∙◌, subst, arith}
use Rattle.std.proofs.lemmas.Iterator.Consumers.{YieldsList-from_first, YieldsList-turn, YieldsList-end}
use Rattle.cc_capture.specs.Sets.{Member}
use Rattle.cc_sets.proofs.Markings.{member_at}
use Rattle.cc_solve.specs.Adding.{AddsThose, IsSeedOf, IsFlowOf}
use Rattle.cc_solve.proofs.Additions.{listed_member, seeds_more, flows_more, seeds_begin, flows_begin}
use Rattle.cc_solve.proofs.solving.put_ends.Goals as goal

pub loop-elem-init : goal.loop-elem-init
loop-elem-init c = record { sets = seeds_begin c.args.hole c.args.sets.now; flows = flows_begin c.args.hole c.args.flows.now }

pub put_end-requires-clause-within : goal.put_end-requires-clause-within
put_end-requires-clause-within c = λ from is.
    let at = YieldsList-turn (YieldsList-from_first (λ x. x) (λ s. s) c.args.ends.now.list (c.into_iter-elem-iterator.ensures.into_iter_gives ∙ c.iter-elem-items.ensures)) c.loop-elem.yielded _ c.loop-elem.yielded_by _ _ c.in-Some.elem c.in-Some.is c.next.ensures.steps in
    let here = c.requires.holes from (subst (λ e. Member e c.args.ends.now) is (member_at c.args.ends.now _ c.in-Some.elem at)) in
    omega (arith, here, c.loop-elem.invariant.flows.room)

pub loop-elem-preserved : goal.loop-elem-preserved
loop-elem-preserved c = record {
  sets =
      seeds_more c.args.hole c.loop-elem.yielded c.in-Some.elem c.args.sets.now c.loop-elem.sets c.put_end.new.sets c.loop-elem.invariant.sets c.in_ok-put_end.ensures.sets;
  flows =
      flows_more c.args.hole c.loop-elem.yielded c.in-Some.elem c.args.flows.now c.loop-elem.flows c.put_end.new.flows c.loop-elem.invariant.flows c.in_ok-put_end.ensures.flows;
}

pub returns-clause-sets : goal.returns-clause-sets
returns-clause-sets c =
    let seen = YieldsList-end (YieldsList-from_first (λ x. x) (λ s. s) c.args.ends.now.list (c.into_iter-elem-iterator.ensures.into_iter_gives ∙ c.iter-elem-items.ensures)) c.loop-elem.yielded _ c.loop-elem.yielded_by _ _ c.in-None.is c.next.ensures.steps in
    listed_member c.args.ends.now c.loop-elem.yielded seen.0 (λ Fact. AddsThose (IsSeedOf c.args.hole Fact) c.args.sets.now c.loop-elem.sets) c.loop-elem.invariant.sets

pub returns-clause-flows : goal.returns-clause-flows
returns-clause-flows c =
    let seen = YieldsList-end (YieldsList-from_first (λ x. x) (λ s. s) c.args.ends.now.list (c.into_iter-elem-iterator.ensures.into_iter_gives ∙ c.iter-elem-items.ensures)) c.loop-elem.yielded _ c.loop-elem.yielded_by _ _ c.in-None.is c.next.ensures.steps in
    listed_member c.args.ends.now c.loop-elem.yielded seen.0 (λ Fact. AddsThose (IsFlowOf c.args.hole Fact) c.args.flows.now c.loop-elem.flows) c.loop-elem.invariant.flows
