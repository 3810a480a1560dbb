use Rattle.std.proofs.Common.{sym, ◌∙◌}
use Rattle.cc_subty.specs.Demands.{demand_of}
use Rattle.cc_known.proofs.LostDemands.{judged_by_nothing, lost_by_judging}
use Rattle.cc_type.proofs.log.is_lost.Goals as goal

pub is_served-requires-clause-judged : goal.is_served-requires-clause-judged
is_served-requires-clause-judged c =
    judged_by_nothing (demand_of c.args.demand.now) c.new-nothing.result (c.new-nothing.ensures ∙ c.new.ensures.items)
    c.requires.formed (sym c.may_force.ensures ∙ c.if-may_force.false)

pub returns-clause-lost : goal.returns-clause-lost
returns-clause-lost c =
    lost_by_judging (demand_of c.args.demand.now).asked c.in_ok-served.served c.new-nothing.result
    (c.new-nothing.ensures ∙ c.new.ensures.items) c.requires.formed (sym c.may_force.ensures ∙ c.if-may_force.false)
    c.in_ok-served.ensures.served
