use Rattle.std.proofs.Common.{sym, ap, ◌∙◌}
use Rattle.cc_core.specs.TermViews.{shape_of, type_of}
use Rattle.cc_core.specs.declared.types.Shape.{Shape}
use Rattle.cc_checking.specs.Inference.{type_function_head, shape_in}
use Rattle.cc_core.specs.Reading.{read_shape}
use Rattle.cc_reasons.specs.Causes.{WrongShape}
use Rattle.cc_causes.specs.Views.{scene_of, cause_of}
use Rattle.cc_causes.proofs.LeafAnswers as answers
use Rattle.cc_causes.proofs.leaf_causes.type_application_mismatch.Goals as goal

pub returns : goal.returns
returns c =
    let scene = scene_of c.args.scene.now in
    let cause = cause_of c.in_ok-cause.cause in
    let e = shape_of c.args.found.now.value in
    let bound = shape_of c.in_ok-bound.bound.now.value in
    let argument = shape_of c.args.argument.now.value in
    answers.type_application_mismatch scene c.args.function e c.requires.exposed c.args.code cause argument
    (record { bound = bound; gives = type_of c.in_ok-bound.field-0-1.now.value })
    (λ at. ap (λ (s : Shape). type_function_head at (shape_of s)) (sym c.deref.ensures) ∙ c.in_ok-bound.ensures at)
    c.requires.code
    (c.in_ok-cause.ensures
    ∙ ap (λ s. WrongShape scene s (shape_of c.in_ok-wanted.wanted.value))
    (c.in_ok-read.ensures ∙ ap (λ n. read_shape n argument) c.entries.ensures)
    ∙ ap (λ (s : Shape). WrongShape scene (shape_in scene.context argument) (shape_of s)) c.in_ok-wanted.ensures.cases)
