use Rattle.std.proofs.Common.{subst, arith}
use Rattle.cc_capture.specs.declared.var.Elem.TheVariants.{Hole}
use Rattle.cc_capture.specs.Sets.{Member}
use Rattle.cc_solve.specs.Solutions.{filling_of}
use Rattle.cc_solve.proofs.Additions.{read, member_within}
use Rattle.cc_solve.proofs.Saturation.{saturates_first, saturates_more, saturates_last, turn_less, turn_within}
use Rattle.cc_solve.proofs.Saturation.{popped_none}
use Rattle.cc_solve.proofs.spreading.saturate.Goals as goal

pub loop-from-init : goal.loop-from-init
loop-from-init c =
    saturates_first (filling_of c.args.flows.now) c.args.sets.now c.in_ok-queue.queue.items c.in_ok-queue.ensures.all c.in_ok-queue.ensures.below
    (λ from at m. let low = member_within c.args.flows.now from (Hole at) m in omega (arith, low, c.requires.same))

pub bounds-flows-from : goal.bounds-flows-from
bounds-flows-from c =
    let low = turn_within (filling_of c.args.flows.now) c.args.sets.now c.loop-from.sets c.loop-from.queue.items c.pop.new.self.items c.in-Some.from c.loop-from.invariant c.in-Some.ensures.items in
    omega (arith, low, c.loop-from.invariant.room, c.requires.same)

pub spread-requires-clause-from : goal.spread-requires-clause-from
spread-requires-clause-from c =
    turn_within (filling_of c.args.flows.now) c.args.sets.now c.loop-from.sets c.loop-from.queue.items c.pop.new.self.items c.in-Some.from c.loop-from.invariant c.in-Some.ensures.items

pub spread-requires-clause-within : goal.spread-requires-clause-within
spread-requires-clause-within c = λ hole m.
    let low = turn_within (filling_of c.args.flows.now) c.args.sets.now c.loop-from.sets c.loop-from.queue.items c.pop.new.self.items c.in-Some.from c.loop-from.invariant c.in-Some.ensures.items in
    let flow = read c.args.flows.now c.in-Some.from c.index-flows-from.result (omega (arith, low, c.loop-from.invariant.room, c.requires.same)) c.index-flows-from.is in
    let below = c.requires.within c.in-Some.from hole (subst (Member (Hole hole)) flow m) in
    omega (arith, below, c.loop-from.invariant.room)

pub loop-from-smaller : goal.loop-from-smaller
loop-from-smaller c =
    turn_less c.in-Some.from _ (filling_of c.args.flows.now) c.args.sets.now c.loop-from.sets c.spread.new.sets c.loop-from.queue.items c.pop.new.self.items c.spread.new.queue.items
    c.loop-from.invariant c.in-Some.ensures.items c.in_ok-spread.ensures

pub loop-from-preserved : goal.loop-from-preserved
loop-from-preserved c =
    let low = turn_within (filling_of c.args.flows.now) c.args.sets.now c.loop-from.sets c.loop-from.queue.items c.pop.new.self.items c.in-Some.from c.loop-from.invariant c.in-Some.ensures.items in
    let flow = read c.args.flows.now c.in-Some.from c.index-flows-from.result (omega (arith, low, c.loop-from.invariant.room, c.requires.same)) c.index-flows-from.is in
    saturates_more (filling_of c.args.flows.now) c.args.sets.now c.loop-from.sets c.spread.new.sets c.loop-from.queue.items c.pop.new.self.items c.spread.new.queue.items c.in-Some.from
    c.index-flows-from.result c.loop-from.invariant c.in-Some.ensures.items flow c.in_ok-spread.ensures

pub returns-clause-arrives : goal.returns-clause-arrives
returns-clause-arrives c =
    saturates_last (filling_of c.args.flows.now) c.args.sets.now c.loop-from.sets c.loop-from.queue.items c.loop-from.invariant
    (popped_none c.loop-from.queue.items c.pop.new.self.items _ c.in_default.ensures.cases.0 c.in_default.ensures.rest c.in_default.ensures.items)
