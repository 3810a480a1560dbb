use Rattle.std.proofs.Common.{refl, [], ◌∷◌}
use Rattle.cc_derive.proofs.nodes.over_one.Goals as goal

pub returns : goal.returns
returns c = λ d p.
    record { gives = refl; made = c.in_ok-tree.ensures c.args.build (d ∷ []) (c.in_ok-parts.ensures d p) }
