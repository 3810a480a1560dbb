use Rattle.cc_captured_reasons.proofs.SetsCount.{captured_is_told_by_sets}
use Rattle.cc_captured_reasons.proofs.chain_laws.captured_is_told_by_sets.Goals as goal

pub returns : goal.returns
returns c = captured_is_told_by_sets
