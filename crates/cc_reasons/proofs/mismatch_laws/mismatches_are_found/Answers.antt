use Rattle.cc_reasons.proofs.FoundMismatches.{mismatches_are_found}
use Rattle.cc_reasons.proofs.mismatch_laws.mismatches_are_found.Goals as goal

pub returns : goal.returns
returns c = mismatches_are_found
