use Rattle.std.proofs.Common.{sym, ap, ◌∙◌}
use Rattle.cc_core.specs.TermViews.{shape_of, type_of}
use Rattle.cc_core.specs.declared.types.Shape.{Shape}
use Rattle.cc_core.specs.declared.types.Ty.{Ty}
use Rattle.cc_checking.specs.Inference.{type_function_head}
use Rattle.cc_core.specs.Reading.{read_shape}
use Rattle.cc_core.specs.Substitution.{replaced_type_by_shape}
use Rattle.cc_reasons.specs.Causes.{TooLarge}
use Rattle.cc_causes.specs.Views.{scene_of, cause_of}
use Rattle.cc_causes.proofs.LeafAnswers as answers
use Rattle.cc_causes.proofs.leaf_causes.type_application_large.Goals as goal

pub returns : goal.returns
returns c =
    let scene = scene_of c.args.scene.now in
    let cause = cause_of c.in_ok-cause.cause in
    let e = shape_of c.args.found.now.value in
    let gives = type_of c.in_ok-gives.gives.now.value in
    let argument = shape_of c.args.argument.now.value in
    answers.type_application_large scene c.args.function e c.requires.exposed c.args.code cause argument
    (record { bound = shape_of c.in_ok-gives.field-0-0.now.value; gives = gives })
    (λ at. ap (λ (s : Shape). type_function_head at (shape_of s)) (sym c.deref.ensures) ∙ c.in_ok-gives.ensures at)
    c.requires.no_head c.requires.no_mismatch
    (c.in_ok-cause.ensures ∙ ap (TooLarge scene)
    (c.in_ok-ty.ensures
    ∙ ap (λ (t : Ty). replaced_type_by_shape (shape_of c.in_ok-read.read.value) (type_of t)) c.deref-2.ensures
    ∙ ap (λ s. replaced_type_by_shape s gives)
    (c.in_ok-read.ensures ∙ ap (λ n. read_shape n argument) c.entries.ensures)))
