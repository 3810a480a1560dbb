use Rattle.cc_captured_reasons.proofs.SetsCount.{sets_alone_count}
use Rattle.cc_captured_reasons.proofs.chain_laws.sets_alone_count.Goals as goal

pub returns : goal.returns
returns c = sets_alone_count
