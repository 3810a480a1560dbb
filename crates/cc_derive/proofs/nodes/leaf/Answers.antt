use Rattle.std.proofs.Common.{refl, []}
use Rattle.cc_derive.proofs.nodes.leaf.Goals as goal

pub returns : goal.returns
returns c =
    record { gives = refl; made = c.in_ok-tree.ensures c.args.build [] c.no_parts.ensures }
