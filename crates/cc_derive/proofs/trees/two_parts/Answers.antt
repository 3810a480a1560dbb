use Rattle.std.proofs.Common.{[], ◌∷◌}
use Rattle.std.proofs.lemmas.Result.{IfOk-weaker}
use Rattle.cc_derive.proofs.trees.two_parts.Goals as goal

pub returns : goal.returns
returns c =
    IfOk-weaker c.with_part.result _ _ (λ r h. λ d e t u. h c.args.build (d ∷ []) e (c.in_ok-parts.ensures d t) u)
    c.with_part.ensures
