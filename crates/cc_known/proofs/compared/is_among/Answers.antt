use Rattle.std.proofs.Common.{true, arith, subst}
use Rattle.cc_core.specs.TermViews.{shape_of, context_of}
use Rattle.cc_checking.specs.Comparison.{comparison}
use Rattle.cc_known.specs.ComparedPairs.{is_compared, IsKept}
use Rattle.cc_known.proofs.EndedLists.{passes-at}
use Rattle.cc_known.proofs.compared.is_among.Goals as goal

pub returns-then-is_of : goal.returns-then-is_of
returns-then-is_of c = λ holds steps log at all.
    let pair = c.index-pairs-place.result in
    let g = context_of c.args.ctx.now in
    let said = c.is_of.ensures in
    let yes = c.if-is_of.true in
    subst (λ l. IsKept at (comparison steps g l (shape_of c.args.right.now)) true log log) (said.left yes)
    (subst (λ r. IsKept at (comparison steps g (shape_of pair.left) r) true log log) (said.right yes)
    (c.stands.ensures holds steps log at
    (passes-at (is_compared steps log) c.args.pairs.now c.in-Some.place pair
    (let low = c.if-place-pairs.false in omega (arith, low)) c.index-pairs-place.is all)))
