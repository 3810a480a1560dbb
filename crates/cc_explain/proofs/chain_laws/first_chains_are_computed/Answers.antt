use Rattle.cc_explain.proofs.Computed.{first_chains_are_computed}
use Rattle.cc_explain.proofs.chain_laws.first_chains_are_computed.Goals as goal

pub returns : goal.returns
returns c = first_chains_are_computed
