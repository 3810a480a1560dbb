use Rattle.cc_vouching.proofs.FirstDifferences.{differences_found}
use Rattle.cc_vouching.proofs.vouching_laws.differences_are_found.Goals as goal

pub returns : goal.returns
returns c = differences_found
