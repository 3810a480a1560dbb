use Rattle.cc_explain.proofs.Computed.{chains_are_bounded}
use Rattle.cc_explain.proofs.chain_laws.chains_are_bounded.Goals as goal

pub returns : goal.returns
returns c = chains_are_bounded
