use Rattle.cc_mismatch.proofs.SameParts.{found_parts_are_the_same}
use Rattle.cc_mismatch.proofs.mismatch_laws.found_parts_are_the_same.Goals as goal

pub returns : goal.returns
returns c = found_parts_are_the_same
