use Rattle.std.proofs.Common.{ap, ◌∙◌}
use Rattle.cc_core.specs.TermViews.{shape_of}
use Rattle.cc_reasons.specs.Causes.{WrongHead, ABase}
use Rattle.cc_causes.specs.Views.{scene_of, cause_of}
use Rattle.cc_causes.proofs.LeafAnswers as answers
use Rattle.cc_causes.proofs.leaf_causes.operation_head.Goals as goal

pub returns : goal.returns
returns c =
    let scene = scene_of c.args.scene.now in
    let cause = cause_of c.in_ok-cause.cause in
    let e = shape_of c.args.found.value in
    answers.operation_head scene c.args.receiver e c.requires.exposed c.args.code cause c.args.operation c.args.argument
    c.requires.code
    (c.in_ok-cause.ensures ∙ ap (λ b. WrongHead scene e (ABase b)) c.base_operated.ensures)
