use Rattle.cc_derive.proofs.Made.{with_part}
use Rattle.cc_derive.proofs.trees.with_part.Goals as goal

pub returns : goal.returns
returns c = λ build ds d p t.
    with_part build c.args.parts c.args.tree _ ds d c.saturating_add-nodes.ensures (c.in_ok-ders.ensures build ds d p.built t.built) p t
