use Rattle.std.proofs.Common.{ap, ◌∙◌, subst}
use Rattle.std.proofs.lemmas.Result.{IfOk-weaker}
use Rattle.cc_core.specs.TermViews.{context_of}
use Rattle.cc_core.specs.Shapes.{CapturingType}
use Rattle.cc_checking.specs.CanonicalDerivations as plain
use Rattle.cc_derive.specs.Typings.{IsTyping}
use Rattle.cc_core.specs.Derivations.{t-op, OfType, Node, two}
use Rattle.cc_core.specs.Shapes.{BaseShape}
use Rattle.cc_checking.specs.Inference.{base_type}
use Rattle.cc_derive.proofs.rows.operate_on.Goals as goal

pub returns : goal.returns
returns c =
    let g = context_of c.args.ctx.now in
    let typed = c.in_ok-ty.ensures ∙ ap base_type c.base_answered.ensures in
    IfOk-weaker c.over_two.result _ _
    (λ x h. λ m le.
    let d = plain.head_derived (plain.shape_derived m) g c.args.device in
    let e = plain.operand_derived (plain.shape_derived m) g c.args.argument (BaseShape c.args.base) in
    subst (λ (t : CapturingType). IsTyping c.args.build x (Node t-op (two d e) (OfType t))) typed
    (h d e (c.in_ok-first.ensures m le) (c.in_ok-second.ensures m le)))
    c.over_two.ensures
