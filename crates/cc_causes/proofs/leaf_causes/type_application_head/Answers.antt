use Rattle.cc_core.specs.TermViews.{shape_of}
use Rattle.cc_causes.specs.Views.{scene_of, cause_of}
use Rattle.cc_causes.proofs.LeafAnswers as answers
use Rattle.cc_causes.proofs.leaf_causes.type_application_head.Goals as goal

pub returns : goal.returns
returns c =
    let scene = scene_of c.args.scene.now in
    let cause = cause_of c.in_ok-cause.cause in
    let e = shape_of c.args.found.value in
    answers.type_application_head scene c.args.function e c.requires.exposed c.args.code cause
    (shape_of c.args.argument.now.value) c.requires.code c.in_ok-cause.ensures
