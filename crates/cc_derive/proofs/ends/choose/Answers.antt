use Rattle.std.proofs.lemmas.Result.{IfOk-weaker}
use Rattle.cc_core.specs.TermViews.{type_of, context_of}
use Rattle.cc_checking.specs.CanonicalDerivations as plain
use Rattle.cc_base.specs.declared.literal.Base.TheVariants as bases
use Rattle.cc_core.specs.Shapes.{BaseShape}
use Rattle.cc_derive.proofs.MadeEnds.{raised_as}
use Rattle.cc_derive.proofs.ends.choose.Goals as goal

pub returns : goal.returns
returns c =
    let g = context_of c.args.ctx.now in
    let type = type_of c.args.ty in
    IfOk-weaker c.over_three.result _ _
    (λ x h. λ m le d e p q.
    let derive = plain.shape_derived m in
    let one = raised_as c.args.build derive c.in_ok-positive.positive g d (type_of c.in_ok-one.one) type c.in_ok-one.ensures.cases (c.in_ok-positive.ensures m le d p) in
    let other = raised_as c.args.build derive c.in_ok-negative.negative g e (type_of c.in_ok-other.other) type c.in_ok-other.ensures.cases (c.in_ok-negative.ensures m le e q) in
    h (plain.operand_derived derive g c.args.test (BaseShape bases.Bool)) (plain.raised derive g d type) (plain.raised derive g e type) (c.in_ok-first.ensures m le) one.made other.made)
    c.over_three.ensures
