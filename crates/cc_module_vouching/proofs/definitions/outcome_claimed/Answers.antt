use Rattle.std.proofs.Common.{ℕ, List, Some, map, sym, ap, ◌∙◌}
use Rattle.std.proofs.lemmas.Result.{IfOk-weaker}
use Rattle.cc_mnf.specs.CoreModules as core
use Rattle.cc_module_vouching.specs.ClaimViews.{claim_of}
use Rattle.cc_module_vouching.proofs.VouchedInOrder.{comes_unclaimed}
use Rattle.cc_module_vouching.proofs.definitions.outcome_claimed.Goals as goal

pub returns-in-Some-clause-outcome : goal.returns-in-Some-clause-outcome
returns-in-Some-clause-outcome c =
    IfOk-weaker c.outcome_judged.result _ _
    (λ o h. h (map claim_of c.args.claims.now) (sym c.in-Some.ensures ∙ ap (λ (b : List ℕ). Some b) (sym c.as_slice.ensures.value))) c.outcome_judged.ensures.outcome

pub returns-in-None-clause-outcome : goal.returns-in-None-clause-outcome
returns-in-None-clause-outcome c =
    comes_unclaimed c.args.devices c.args.known.now.items (core.definition_of c.args.def.now)
    (map claim_of c.args.claims.now) (sym c.in-None.ensures)
