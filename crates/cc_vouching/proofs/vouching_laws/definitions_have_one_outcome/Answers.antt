use Rattle.cc_vouching.proofs.ClaimedOutcomes.{outcomes_go_by_claims, outcomes_exist, outcomes_unique}
use Rattle.cc_vouching.proofs.vouching_laws.definitions_have_one_outcome.Goals as goal

pub returns : goal.returns
returns c = record { exist = outcomes_exist; unique = outcomes_unique; by_claims = outcomes_go_by_claims }
