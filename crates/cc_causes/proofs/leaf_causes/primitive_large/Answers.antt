use Rattle.std.proofs.Common.{ap, ◌∙◌}
use Rattle.cc_checking.specs.Inference.{base_type}
use Rattle.cc_reasons.specs.Causes.{TooLarge}
use Rattle.cc_causes.specs.Views.{scene_of, cause_of}
use Rattle.cc_causes.proofs.LeafAnswers as answers
use Rattle.cc_causes.proofs.leaf_causes.primitive_large.Goals as goal

pub returns : goal.returns
returns c =
    let scene = scene_of c.args.scene.now in
    let cause = cause_of c.in_ok-cause.cause in
    answers.primitive_large scene c.args.left c.args.right c.args.code cause c.args.operator c.requires.no_mismatch
    (c.in_ok-cause.ensures ∙ ap (TooLarge scene) (c.in_ok-ty.ensures ∙ ap base_type c.base_given.ensures))
