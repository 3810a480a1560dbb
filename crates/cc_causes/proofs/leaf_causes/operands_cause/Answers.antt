use Rattle.std.proofs.Common.{ap, subst, ◌∙◌, inl, inr}
use Rattle.cc_core.specs.TermViews.{shape_of, context_of}
use Rattle.cc_checking.specs.Inference.{in_context}
use Rattle.cc_core.specs.Shapes.{capturing}
use Rattle.cc_base.specs.declared.literal.Base.TheVariants as bases
use Rattle.cc_core.specs.Captured.{variable_set}
use Rattle.cc_core.specs.Shapes.{BaseShape}
use Rattle.cc_type.specs.Rows.{comparing}
use Rattle.cc_reasons.specs.Causes.{WrongShape}
use Rattle.cc_causes.specs.Views.{scene_of}
use Rattle.cc_causes.specs.LeafReasons.{IsMatch}
use Rattle.cc_causes.proofs.leaf_causes.operands_cause.Goals as goal

pub returns-then-matches : goal.returns-then-matches
returns-then-matches c =
    let g = context_of c.args.scene.now.ctx in
    let first = capturing (shape_of c.in_ok-first.first.value) (variable_set (in_context g c.args.left)) in
    let second = capturing (shape_of c.in_ok-second.second.value) (variable_set (in_context g c.args.right)) in
    inr (
      first,
      second,
      c.in_ok-first.ensures.is,
      subst (λ b. IsMatch b (comparing g first.shape (BaseShape bases.Int))) c.if-matches.true
          (c.in_ok-matches.ensures first c.in_ok-first.ensures.is),
      c.in_ok-second.ensures.is,
      c.in_ok-cause.ensures,
    )

pub returns : goal.returns
returns c =
    let g = context_of c.args.scene.now.ctx in
    let scene = scene_of c.args.scene.now in
    let first = capturing (shape_of c.in_ok-first.first.value) (variable_set (in_context g c.args.left)) in
    inl (
      first,
      c.in_ok-first.ensures.is,
      subst (λ b. IsMatch b (comparing g first.shape (BaseShape bases.Int))) c.if-matches.false
          (c.in_ok-matches.ensures first c.in_ok-first.ensures.is),
      c.in_ok-cause-2.ensures ∙ ap (WrongShape scene first.shape) c.in_ok-number.ensures,
    )
