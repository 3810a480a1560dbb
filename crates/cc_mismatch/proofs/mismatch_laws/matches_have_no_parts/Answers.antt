use Rattle.cc_mismatch.proofs.MatchedParts.{matches_have_no_parts}
use Rattle.cc_mismatch.proofs.mismatch_laws.matches_have_no_parts.Goals as goal

pub returns : goal.returns
returns c = matches_have_no_parts
