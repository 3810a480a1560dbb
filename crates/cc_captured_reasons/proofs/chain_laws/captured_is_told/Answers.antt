use Rattle.cc_captured_reasons.proofs.ToldChains.{captured_is_told}
use Rattle.cc_captured_reasons.proofs.chain_laws.captured_is_told.Goals as goal

pub returns : goal.returns
returns c = captured_is_told
