use Rattle.std.proofs.Common.{length, arith}
use Rattle.cc_subty.specs.Demands.{asked_of}
use Rattle.cc_solve.proofs.Answered.{on_ok}
use Rattle.cc_solve.proofs.CollectedDemands.{flows_below}
use Rattle.cc_solve.proofs.LeastByArrival.{least_by_arrival}
use Rattle.cc_solve.proofs.solving.fill.Goals as goal

pub saturate-requires-clause-within : goal.saturate-requires-clause-within
saturate-requires-clause-within c = λ at hole m.
    let below =
    flows_below c.args.globals (length c.args.sets.now) (asked_of c.args.demands.now) c.args.flows.now c.collect.new.flows c.requires.solvable c.requires.flows
    c.in_ok-collect.ensures.flows at hole m in
    omega (arith, below, c.in_ok-collect.ensures.sets.room)

pub returns-clause-least : goal.returns-clause-least
returns-clause-least c =
    on_ok c.saturate.result _ _
    (least_by_arrival c.args.globals (asked_of c.args.demands.now) c.collect.new.flows c.collect.new.sets c.args.sets.now c.args.flows.now c.requires.sets c.requires.flows c.in_ok-collect.ensures.sets c.in_ok-collect.ensures.flows
    c.saturate.new.sets)
    c.saturate.ensures.arrives
