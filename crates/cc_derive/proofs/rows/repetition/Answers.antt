use Rattle.std.proofs.Common.{subst}
use Rattle.std.proofs.lemmas.Result.{IfOk-weaker}
use Rattle.cc_core.specs.TermViews.{context_of}
use Rattle.cc_core.specs.Shapes.{Shape, CapturingType}
use Rattle.cc_checking.specs.CanonicalDerivations as plain
use Rattle.cc_derive.specs.Typings.{IsTyping}
use Rattle.cc_base.specs.declared.literal.Base.TheVariants as bases
use Rattle.cc_capture.specs.Sets.{empty}
use Rattle.cc_core.specs.Derivations.{t-repeat, OfType, Node, two}
use Rattle.cc_core.specs.Shapes.{BaseShape, FunctionShape}
use Rattle.cc_derive.specs.Trees.{IsMade}
use Rattle.cc_derive.proofs.rows.repetition.Goals as goal

pub returns : goal.returns
returns c =
    let g = context_of c.args.ctx.now in
    let numbers = FunctionShape (BaseShape bases.Int) empty (BaseShape bases.Unit) empty in
    IfOk-weaker c.over_two.result _ _
    (λ x h. λ m le.
    let d = plain.operand_derived (plain.shape_derived m) g c.args.count (BaseShape bases.Int) in
    let e = plain.operand_derived (plain.shape_derived m) g c.args.function numbers in
    subst (λ (t : CapturingType). IsTyping c.args.build x (Node t-repeat (two d e) (OfType t))) c.in_ok-ty.ensures
    (h d e (c.in_ok-first.ensures m le)
    (subst (λ (s : Shape). IsMade c.args.build c.in_ok-second.second (plain.operand_derived (plain.shape_derived m) g c.args.function s)) c.in_ok-shape.ensures (c.in_ok-second.ensures m le))))
    c.over_two.ensures
