use Rattle.std.proofs.Common.{length}
use Rattle.cc_solve.proofs.CollectedDemands.{solvable_one, seeds_first, flows_first, seeds_next, flows_next}
use Rattle.cc_solve.proofs.CollectedDemands.{seeds_whole, flows_whole}
use Rattle.cc_solve.proofs.DeclaredChains.{clear_none}
use Rattle.cc_solve.proofs.solving.collect.Goals as goal

pub loop-demand-init : goal.loop-demand-init
loop-demand-init c = record {
  clear = clear_none c.new-marks.result c.new-marks.ensures;
  sets = seeds_first c.args.globals c.args.sets.now;
  flows = flows_first c.args.globals c.args.flows.now;
}

pub collect_demand-requires-clause-solvable : goal.collect_demand-requires-clause-solvable
collect_demand-requires-clause-solvable c =
    solvable_one c.args.globals (length c.args.sets.now) c.args.demands.now c.loop-demand.demand-index c.demand-item.result (length c.loop-demand.sets) c.loop-demand.auto.sets
    c.requires.solvable c.loop-demand-test.true c.demand-item.is

pub collect_demand-requires-clause-clear : goal.collect_demand-requires-clause-clear
collect_demand-requires-clause-clear c = c.loop-demand.invariant.clear

pub loop-demand-preserved : goal.loop-demand-preserved
loop-demand-preserved c = record {
  clear = c.in_ok-collect_demand.ensures.clear;
  sets =
      seeds_next c.args.globals c.args.demands.now c.loop-demand.demand-index c.demand-item.result c.args.sets.now c.loop-demand.sets c.collect_demand.new.sets c.loop-demand-test.true
      c.demand-item.is c.loop-demand.invariant.sets c.in_ok-collect_demand.ensures.sets;
  flows =
      flows_next c.args.globals c.args.demands.now c.loop-demand.demand-index c.demand-item.result c.args.flows.now c.loop-demand.flows c.collect_demand.new.flows c.loop-demand-test.true
      c.demand-item.is c.loop-demand.invariant.flows c.in_ok-collect_demand.ensures.flows;
}

pub returns-clause-sets : goal.returns-clause-sets
returns-clause-sets c =
    seeds_whole c.args.globals c.args.demands.now c.loop-demand.demand-index c.args.sets.now c.loop-demand.sets c.loop-demand-test.false c.loop-demand.invariant.sets

pub returns-clause-flows : goal.returns-clause-flows
returns-clause-flows c =
    flows_whole c.args.globals c.args.demands.now c.loop-demand.demand-index c.args.flows.now c.loop-demand.flows c.loop-demand-test.false c.loop-demand.invariant.flows
