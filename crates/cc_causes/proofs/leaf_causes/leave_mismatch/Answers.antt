use Rattle.std.proofs.Common.{sym, ap, ◌∙◌}
use Rattle.cc_core.specs.TermViews.{shape_of, type_of}
use Rattle.cc_core.specs.declared.types.Shape.{Shape}
use Rattle.cc_checking.specs.Inference.{exit_head}
use Rattle.cc_core.specs.Shapes.{capturing}
use Rattle.cc_capture.specs.Sets.{empty}
use Rattle.cc_reasons.specs.Causes.{WrongType}
use Rattle.cc_causes.specs.Views.{scene_of, cause_of}
use Rattle.cc_causes.proofs.LeafAnswers as answers
use Rattle.cc_causes.proofs.leaf_causes.leave_mismatch.Goals as goal

pub returns : goal.returns
returns c =
    let scene = scene_of c.args.scene.now in
    let cause = cause_of c.in_ok-cause.cause in
    let e = shape_of c.args.found.now.value in
    let given = type_of c.in_ok-given.given in
    answers.leave_mismatch scene c.args.exit e c.requires.exposed c.args.code cause
    (shape_of c.args.gives.now.value.shape.value) c.args.gives.now.value.set c.args.value (shape_of c.in_ok-takes.takes.now.value) given
    (λ at. ap (λ (s : Shape). exit_head at (shape_of s)) (sym c.deref.ensures) ∙ c.in_ok-takes.ensures at)
    c.in_ok-given.ensures c.requires.code
    (c.in_ok-cause.ensures ∙ ap (WrongType scene given) (c.pure_type.ensures
    ∙ ap (λ (s : Shape). capturing (shape_of s) empty) c.in_ok-wanted.ensures.cases))
