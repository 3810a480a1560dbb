use Rattle.std.proofs.Common.{[]}
use Rattle.std.proofs.lemmas.Result.{IfOk-weaker}
use Rattle.cc_derive.proofs.trees.one_part.Goals as goal

pub returns : goal.returns
returns c =
    IfOk-weaker c.with_part.result _ _ (λ r h. λ d t. h c.args.build [] d c.no_parts.ensures t) c.with_part.ensures
