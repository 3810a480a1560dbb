use Rattle.std.proofs.Common.{sym, ap, ◌∙◌}
use Rattle.cc_core.specs.TermViews.{shape_of, type_of}
use Rattle.cc_core.specs.declared.types.Shape.{Shape}
use Rattle.cc_checking.specs.Inference.{function_head}
use Rattle.cc_reasons.specs.Causes.{WrongType}
use Rattle.cc_causes.specs.Views.{scene_of, cause_of}
use Rattle.cc_causes.proofs.LeafAnswers as answers
use Rattle.cc_causes.proofs.leaf_causes.application_mismatch.Goals as goal

pub returns : goal.returns
returns c =
    let scene = scene_of c.args.scene.now in
    let cause = cause_of c.in_ok-cause.cause in
    let e = shape_of c.args.found.now.value in
    let takes = type_of c.in_ok-takes.takes.now.value in
    let given = type_of c.in_ok-given.given in
    answers.application_mismatch scene c.args.function e c.requires.exposed c.args.code cause c.args.argument
    (record { takes = takes; gives = type_of c.in_ok-takes.field-0-1.now.value }) given
    (λ at. ap (λ (s : Shape). function_head at (shape_of s)) (sym c.deref.ensures) ∙ c.in_ok-takes.ensures at)
    c.in_ok-given.ensures c.requires.code
    (c.in_ok-cause.ensures ∙ ap (WrongType scene given) (c.in_ok-wanted.ensures.cases ∙ ap type_of c.as_ref.ensures))
