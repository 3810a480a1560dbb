use Rattle.cc_explain.proofs.Orders.{first_chains_are_unique}
use Rattle.cc_explain.proofs.chain_laws.first_chains_are_unique.Goals as goal

pub returns : goal.returns
returns c = first_chains_are_unique
