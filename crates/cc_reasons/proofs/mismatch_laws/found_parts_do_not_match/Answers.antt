use Rattle.cc_reasons.proofs.FoundMismatches.{found_parts_do_not_match}
use Rattle.cc_reasons.proofs.mismatch_laws.found_parts_do_not_match.Goals as goal

pub returns : goal.returns
returns c = found_parts_do_not_match
