use Rattle.cc_certificate_judging.proofs.GrownTrees.{certificate_tree}
use Rattle.cc_certificate_judging.proofs.OneTree.{one_tree}
use Rattle.cc_certificate_judging.proofs.judging_laws.trees.Goals as goal

pub returns : goal.returns
returns c = record { some = certificate_tree; one = one_tree }
