use Rattle.std.proofs.Common.{arith}
use Rattle.cc_core.specs.TermViews.{shape_of}
use Rattle.cc_known.proofs.RememberedPairs.{among_here}
use Rattle.cc_known.proofs.pairs.is_among.Goals as goal

pub returns-then-is_of : goal.returns-then-is_of
returns-then-is_of c = λ holds log context all.
    let said = c.is_of.ensures in
    let yes = c.if-is_of.true in
    among_here log context c.args.pairs.now c.in-Some.place c.index-pairs-place.result c.args.variable
    (shape_of c.args.right.now) c.args.steps c.args.lost
    (omega (arith, c.if-place-limit.false, c.loop-next.invariant)) c.index-pairs-place.is
    (said.variable yes) (said.right yes) (said.steps yes) (said.lost yes) all
