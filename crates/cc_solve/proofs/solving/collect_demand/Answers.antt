use Rattle.std.proofs.Common.{[], ◌∷◌, length, sym, subst, arith}
use Rattle.cc_subty.specs.Demands.{demand_of}
use Rattle.cc_solve.specs.Adding.{AddsThose, IsSeed, IsFlow}
use Rattle.cc_solve.specs.Solutions.{AreSolvable}
use Rattle.cc_solve.proofs.Answered.{on_ok}
use Rattle.cc_solve.proofs.CollectedDemands.{context_formed, left_formed, hole_below, ends_below, seeds_of_demand}
use Rattle.cc_solve.proofs.CollectedDemands.{flows_of_demand, no_seeds_of_demand, no_flows_of_demand}
use Rattle.cc_solve.proofs.CollectedDemands.{no_seeds_of_capless, no_flows_of_capless}
use Rattle.cc_solve.proofs.solving.collect_demand.Goals as goal

pub ends_of-requires-clause-context : goal.ends_of-requires-clause-context
ends_of-requires-clause-context c =
    context_formed c.in-Sub.ctx c.in-Sub.left c.in-Sub.right c.in-Sub.at c.args.globals (length c.args.sets.now)
    (subst (λ d. AreSolvable c.args.globals (length c.args.sets.now) (demand_of d ∷ [])) c.in-Sub.is c.requires.solvable)

pub ends_of-requires-clause-set : goal.ends_of-requires-clause-set
ends_of-requires-clause-set c =
    left_formed c.in-Sub.ctx c.in-Sub.left c.in-Sub.right c.in-Sub.at c.args.globals (length c.args.sets.now)
    (subst (λ d. AreSolvable c.args.globals (length c.args.sets.now) (demand_of d ∷ [])) c.in-Sub.is c.requires.solvable)

pub put_ends-requires-clause-hole : goal.put_ends-requires-clause-hole
put_ends-requires-clause-hole c =
    hole_below c.in-Sub.ctx c.in-Sub.left c.in-Sub.right c.in-Sub.at c.args.globals (length c.args.sets.now)
    (subst (λ d. AreSolvable c.args.globals (length c.args.sets.now) (demand_of d ∷ [])) c.in-Sub.is c.requires.solvable) c.in-Some.hole c.in-Some.ensures

pub put_ends-requires-clause-holes : goal.put_ends-requires-clause-holes
put_ends-requires-clause-holes c = λ hole m.
    let below =
    ends_below c.in-Sub.ctx c.in-Sub.left c.in-Sub.right c.in-Sub.at c.args.globals (length c.args.sets.now)
    (subst (λ d. AreSolvable c.args.globals (length c.args.sets.now) (demand_of d ∷ [])) c.in-Sub.is c.requires.solvable) c.in_ok-ends-in-Some.ends
    (λ e here. (c.in_ok-ends-in-Some.ensures.ends e).0 here) hole m in
    omega (arith, below, c.requires.same)

pub returns-in_ok-ends-in-Some-clause-sets : goal.returns-in_ok-ends-in-Some-clause-sets
returns-in_ok-ends-in-Some-clause-sets c =
    on_ok c.put_ends.result _ _
    (λ added.
    subst (λ d. AddsThose (IsSeed c.args.globals (demand_of d ∷ [])) c.args.sets.now c.put_ends.new.sets) (sym c.in-Sub.is)
    (seeds_of_demand c.in-Sub.ctx c.in-Sub.left c.in-Sub.right c.in-Sub.at c.args.globals c.in-Some.hole c.in-Some.ensures c.in_ok-ends-in-Some.ends
    (λ e. (c.in_ok-ends-in-Some.ensures.ends e).0) (λ e. (c.in_ok-ends-in-Some.ensures.ends e).1) c.args.sets.now c.put_ends.new.sets added))
    c.put_ends.ensures.sets

pub returns-in_ok-ends-in-Some-clause-flows : goal.returns-in_ok-ends-in-Some-clause-flows
returns-in_ok-ends-in-Some-clause-flows c =
    on_ok c.put_ends.result _ _
    (λ added.
    subst (λ d. AddsThose (IsFlow c.args.globals (demand_of d ∷ [])) c.args.flows.now c.put_ends.new.flows) (sym c.in-Sub.is)
    (flows_of_demand c.in-Sub.ctx c.in-Sub.left c.in-Sub.right c.in-Sub.at c.args.globals c.in-Some.hole c.in-Some.ensures c.in_ok-ends-in-Some.ends
    (λ e. (c.in_ok-ends-in-Some.ensures.ends e).0) (λ e. (c.in_ok-ends-in-Some.ensures.ends e).1) c.args.flows.now c.put_ends.new.flows added))
    c.put_ends.ensures.flows

pub returns-in-None-clause-sets : goal.returns-in-None-clause-sets
returns-in-None-clause-sets c =
    subst (λ d. AddsThose (IsSeed c.args.globals (demand_of d ∷ [])) c.args.sets.now c.args.sets.now) (sym c.in-Sub.is)
    (no_seeds_of_demand c.in-Sub.ctx c.in-Sub.left c.in-Sub.right c.in-Sub.at c.args.globals c.in-None.ensures c.args.sets.now)

pub returns-in-None-clause-flows : goal.returns-in-None-clause-flows
returns-in-None-clause-flows c =
    subst (λ d. AddsThose (IsFlow c.args.globals (demand_of d ∷ [])) c.args.flows.now c.args.flows.now) (sym c.in-Sub.is)
    (no_flows_of_demand c.in-Sub.ctx c.in-Sub.left c.in-Sub.right c.in-Sub.at c.args.globals c.in-None.ensures c.args.flows.now)

pub returns-in-NoCap-clause-sets : goal.returns-in-NoCap-clause-sets
returns-in-NoCap-clause-sets c =
    subst (λ d. AddsThose (IsSeed c.args.globals (demand_of d ∷ [])) c.args.sets.now c.args.sets.now) (sym c.in-NoCap.is)
    (no_seeds_of_capless c.args.globals c.in-NoCap.set c.in-NoCap.at c.args.sets.now)

pub returns-in-NoCap-clause-flows : goal.returns-in-NoCap-clause-flows
returns-in-NoCap-clause-flows c =
    subst (λ d. AddsThose (IsFlow c.args.globals (demand_of d ∷ [])) c.args.flows.now c.args.flows.now) (sym c.in-NoCap.is)
    (no_flows_of_capless c.args.globals c.in-NoCap.set c.in-NoCap.at c.args.flows.now)
