use Rattle.cc_derive.proofs.Made.{made_tree}
use Rattle.cc_derive.proofs.definition.derive_filled.Goals as goal

pub returns : goal.returns
returns c = λ m le. made_tree c.args.build c.in_ok-tree.tree _ (c.in_ok-tree.ensures m le)
