use Rattle.std.proofs.Common.{Some}
use Rattle.cc_mnf.specs.CoreModules as core
use Rattle.cc_vouch.specs.VouchViews.{claimed_of, outcome_of}
use Rattle.cc_module_vouching.proofs.VouchedInOrder.{comes_judged}
use Rattle.cc_module_vouching.proofs.definitions.outcome_judged.Goals as goal

pub returns-clause-outcome : goal.returns-clause-outcome
returns-clause-outcome c =
    λ claims named.
    comes_judged c.args.devices c.args.known.now.items (core.definition_of c.args.def.now) claims
    (claimed_of c.in_ok-found.found) (outcome_of c.in_ok-outcome.outcome) c.args.bytes.now c.in_ok-found.ensures
    c.in_ok-outcome.ensures.outcome named
