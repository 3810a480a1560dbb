use Rattle.cc_solve.specs.Solutions.{filling_of}
use Rattle.cc_solve.proofs.DeclaredChains.{clear_none}
use Rattle.cc_solve.proofs.Judgements.{judged_one, served_next, served_whole, fails_here}
use Rattle.cc_solve.proofs.judging.first_in.Goals as goal

pub loop-demand-init : goal.loop-demand-init
loop-demand-init c = record { clear = clear_none c.new-marks.result c.new-marks.ensures; served = tt }

pub is_served-requires-clause-judged : goal.is_served-requires-clause-judged
is_served-requires-clause-judged c =
    judged_one (filling_of c.args.filling.now) c.args.demands.now c.loop-demand.demand-index c.demand-item.result c.requires c.loop-demand-test.true c.demand-item.is

pub is_served-requires-clause-clear : goal.is_served-requires-clause-clear
is_served-requires-clause-clear c = c.loop-demand.invariant.clear

pub returns-then-not-branch : goal.returns-then-not-branch
returns-then-not-branch c =
    fails_here (filling_of c.args.filling.now) c.args.demands.now c.loop-demand.demand-index c.demand-item.result c.loop-demand-test.true c.demand-item.is c.loop-demand.invariant.served
    c.in_ok-is_served.field-0 c.in_ok-is_served.ensures.served c.if-not-branch.true c.failure.result.code c.failure.result.place c.failure.ensures.code c.failure.ensures.place

pub loop-demand-preserved : goal.loop-demand-preserved
loop-demand-preserved c = record {
  clear = c.in_ok-is_served.ensures.clear;
  served =
      served_next (filling_of c.args.filling.now) c.args.demands.now c.loop-demand.demand-index c.demand-item.result c.loop-demand-test.true c.demand-item.is c.loop-demand.invariant.served
      c.in_ok-is_served.field-0 c.in_ok-is_served.ensures.served c.if-not-branch.false;
}

pub returns : goal.returns
returns c = served_whole (filling_of c.args.filling.now) c.args.demands.now c.loop-demand.demand-index c.loop-demand-test.false c.loop-demand.invariant.served
