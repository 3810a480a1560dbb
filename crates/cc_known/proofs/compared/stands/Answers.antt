use Rattle.std.proofs.Common.{subst}
use Rattle.cc_core.specs.TermViews.{shape_of, context_of}
use Rattle.cc_known.specs.MarkedEntries.{StandsMarked}
use Rattle.cc_known.proofs.MarkedPairs.{marked_keeps}
use Rattle.cc_known.proofs.compared.stands.Goals as goal

pub returns : goal.returns
returns c = λ holds steps log at is.
    let pair = c.args.pair.now in
    marked_keeps steps log at pair.marks.items (context_of pair.context) (context_of c.args.ctx.now) (shape_of pair.left) (shape_of pair.right)
    c.requires (pair.goes c.if-not-pair.false) (c.is_closed_alike.ensures c.if-not-is_closed_alike.false)
    (subst (λ marks. StandsMarked marks (context_of pair.context) (context_of c.args.ctx.now)) c.as_slice.ensures.value (c.stands_in.ensures holds)) is
