use Rattle.std.proofs.Common.{sym, ◌∙◌}
use Rattle.cc_known.proofs.DemandEnds.{last_found, none_is_empty}
use Rattle.cc_type.proofs.demand_ends.last_below.Goals as goal

pub returns-in-Some : goal.returns-in-Some
returns-in-Some c =
    last_found c.args.waiting.now c.args.limit c.in-Some.last c.saturating_sub.result c.len.result c.position_below.result
    c.len.ensures c.saturating_sub.ensures (sym c.in-Some.is ∙ c.get.ensures) c.position_below.ensures

pub returns-in-None : goal.returns-in-None
returns-in-None c =
    λ below.
    none_is_empty c.args.waiting.now c.saturating_sub.result c.len.result c.len.ensures c.saturating_sub.ensures
    (sym c.in-None.is ∙ c.get.ensures)
