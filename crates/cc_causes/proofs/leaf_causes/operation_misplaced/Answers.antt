use Rattle.std.proofs.Common.{refl}
use Rattle.cc_core.specs.TermViews.{shape_of}
use Rattle.cc_causes.specs.Views.{scene_of}
use Rattle.cc_causes.proofs.LeafAnswers as answers
use Rattle.cc_causes.proofs.leaf_causes.operation_misplaced.Goals as goal

pub returns : goal.returns
returns c =
    answers.operation_misplaced (scene_of c.args._scene.now) c.args.receiver (shape_of c.args._found.now.value)
    c.requires.exposed c.args.code _ c.args.operation c.args.argument c.requires.misplaced c.requires.code refl
