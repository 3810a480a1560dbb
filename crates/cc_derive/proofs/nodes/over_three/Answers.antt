use Rattle.std.proofs.Common.{refl, [], ◌∷◌}
use Rattle.cc_derive.proofs.nodes.over_three.Goals as goal

pub returns : goal.returns
returns c = λ d e f p q r.
    record { gives = refl; made = c.in_ok-tree.ensures c.args.build (d ∷ e ∷ f ∷ []) (c.in_ok-parts.ensures d e f p q r) }
