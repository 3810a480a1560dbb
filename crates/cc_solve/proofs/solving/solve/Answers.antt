use Rattle.std.proofs.Common.{◌≡◌, ◌∙◌, sym, subst}
use Rattle.cc_checking.specs.Fillings.{IsLeast}
use Rattle.cc_subty.specs.Demands.{asked_of}
use Rattle.cc_solve.specs.Solutions.{filling_of}
use Rattle.cc_solve.proofs.CollectedDemands.{written_back}
use Rattle.cc_solve.proofs.LeastByArrival.{least_over, least_is_below, least_serves_too}
use Rattle.cc_solve.proofs.solving.solve.Goals as goal

pub returns-clause-over : goal.returns-clause-over
returns-clause-over c =
    let same : c.new.result ≡ c.fill.new.sets = c.new.ensures ∙ written_back c.in_ok-sets.sets.len c.fill.new.sets _ (sym (c.in_ok-fill.ensures.number ∙ c.as_mut_slice.ensures.len)) in
    least_over c.args.globals (asked_of c.args.demands.now) c.new.result c.fill.new.sets same
    (subst (λ ds. IsLeast c.args.globals (asked_of ds) (filling_of c.fill.new.sets)) c.as_slice.ensures c.in_ok-fill.ensures.least)

pub returns-clause-below : goal.returns-clause-below
returns-clause-below c =
    let same : c.new.result ≡ c.fill.new.sets = c.new.ensures ∙ written_back c.in_ok-sets.sets.len c.fill.new.sets _ (sym (c.in_ok-fill.ensures.number ∙ c.as_mut_slice.ensures.len)) in
    least_is_below c.args.globals (asked_of c.args.demands.now) c.new.result c.fill.new.sets same
    (subst (λ ds. IsLeast c.args.globals (asked_of ds) (filling_of c.fill.new.sets)) c.as_slice.ensures c.in_ok-fill.ensures.least)

pub returns-clause-serves : goal.returns-clause-serves
returns-clause-serves c =
    let same : c.new.result ≡ c.fill.new.sets = c.new.ensures ∙ written_back c.in_ok-sets.sets.len c.fill.new.sets _ (sym (c.in_ok-fill.ensures.number ∙ c.as_mut_slice.ensures.len)) in
    least_serves_too c.args.globals (asked_of c.args.demands.now) c.new.result c.fill.new.sets same
    (subst (λ ds. IsLeast c.args.globals (asked_of ds) (filling_of c.fill.new.sets)) c.as_slice.ensures c.in_ok-fill.ensures.least)
