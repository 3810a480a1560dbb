use Rattle.std.proofs.Common.{refl, [], ◌∷◌}
use Rattle.cc_derive.proofs.nodes.over_two.Goals as goal

pub returns : goal.returns
returns c = λ d e p q.
    record { gives = refl; made = c.in_ok-tree.ensures c.args.build (d ∷ e ∷ []) (c.in_ok-parts.ensures d e p q) }
