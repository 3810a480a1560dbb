use Rattle.std.proofs.Common.{sym, ap, ◌∙◌}
use Rattle.cc_core.specs.TermViews.{shape_of, type_of}
use Rattle.cc_core.specs.declared.types.Shape.{Shape}
use Rattle.cc_core.specs.declared.types.Ty.{Ty}
use Rattle.cc_checking.specs.Inference.{box_head}
use Rattle.cc_core.specs.Shapes.{capturing}
use Rattle.cc_reasons.specs.Causes.{TooLarge}
use Rattle.cc_causes.specs.Views.{scene_of, cause_of}
use Rattle.cc_causes.specs.LeafReasons.{opened_under}
use Rattle.cc_causes.proofs.LeafAnswers as answers
use Rattle.cc_causes.proofs.leaf_causes.unboxing_large.Goals as goal

pub returns : goal.returns
returns c =
    let scene = scene_of c.args.scene.now in
    let cause = cause_of c.in_ok-cause.cause in
    let e = shape_of c.args.found.now.value in
    let content = type_of c.in_ok-inside.inside.now.value in
    answers.unboxing_large scene c.args.content e c.requires.exposed c.args.code cause c.args.set.now content
    (λ at. ap (λ (s : Shape). box_head at (shape_of s)) (sym c.deref.ensures) ∙ c.in_ok-inside.ensures at)
    c.requires.no_head
    (c.in_ok-cause.ensures ∙ ap (TooLarge scene)
    (ap (λ (s : Shape). capturing (shape_of s) c.in_ok-under.under)
    (c.in_ok-shape.ensures.cases ∙ ap (λ (t : Ty). t.shape.value) c.deref-3.ensures)
    ∙ ap (capturing content.shape)
    (c.in_ok-under.ensures ∙ ap (λ (t : Ty). opened_under scene.context t.set c.args.set.now) c.deref-2.ensures)))
