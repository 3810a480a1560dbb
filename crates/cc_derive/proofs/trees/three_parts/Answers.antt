use Rattle.std.proofs.Common.{[], ◌∷◌}
use Rattle.std.proofs.lemmas.Result.{IfOk-weaker}
use Rattle.cc_derive.proofs.trees.three_parts.Goals as goal

pub returns : goal.returns
returns c =
    IfOk-weaker c.with_part.result _ _
    (λ r h. λ d e f t u v. h c.args.build (d ∷ e ∷ []) f (c.in_ok-parts.ensures d e t u) v) c.with_part.ensures
