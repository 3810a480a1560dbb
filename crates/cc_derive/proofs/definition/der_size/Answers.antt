use Rattle.std.proofs.Common.{false}
use Rattle.cc_core.specs.TermViews.{context_of}
use Rattle.cc_derive.specs.Trees.{IsTree}
use Rattle.cc_derive.proofs.AcceptedTrees.{accepted_made}
use Rattle.cc_derive.proofs.definition.der_size.Goals as goal

pub returns : goal.returns
returns c =
    (accepted_made (IsTree false c.in_ok-tree.tree) (context_of c.args.ctx.now) c.args.checked.now c.requires c.in_ok-tree.ensures).counted
