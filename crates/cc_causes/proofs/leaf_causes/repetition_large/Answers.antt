use Rattle.std.proofs.Common.{ap, ◌∙◌}
use Rattle.cc_reasons.specs.Causes.{TooLarge}
use Rattle.cc_causes.specs.Views.{scene_of, cause_of}
use Rattle.cc_causes.proofs.LeafAnswers as answers
use Rattle.cc_causes.proofs.leaf_causes.repetition_large.Goals as goal

pub returns : goal.returns
returns c =
    let scene = scene_of c.args.scene.now in
    let cause = cause_of c.in_ok-cause.cause in
    answers.repetition_large scene c.args.count c.args.function c.args.code cause c.requires.no_mismatch
    (c.in_ok-cause.ensures ∙ ap (TooLarge scene) c.in_ok-ty.ensures)
