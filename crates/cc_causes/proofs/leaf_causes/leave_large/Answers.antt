use Rattle.std.proofs.Common.{ap, ◌∙◌}
use Rattle.cc_core.specs.TermViews.{shape_of, type_of}
use Rattle.cc_core.specs.declared.types.Ty.{Ty}
use Rattle.cc_core.specs.Reading.{read_type}
use Rattle.cc_reasons.specs.Causes.{TooLarge}
use Rattle.cc_causes.specs.Views.{scene_of, cause_of}
use Rattle.cc_causes.proofs.LeafAnswers as answers
use Rattle.cc_causes.proofs.leaf_causes.leave_large.Goals as goal

pub returns : goal.returns
returns c =
    let scene = scene_of c.args.scene.now in
    answers.leave_large scene c.args.exit (shape_of c.args._found.now.value) c.requires.exposed c.args.code
    (cause_of c.in_ok-cause.cause) (shape_of c.args.gives.now.value.shape.value) c.args.gives.now.value.set c.args.value
    c.requires.no_head c.requires.no_mismatch
    (c.in_ok-cause.ensures ∙ ap (TooLarge scene)
    (c.in_ok-ty.ensures ∙ ap (λ (t : Ty). read_type c.entries.result (type_of t)) c.deref.ensures
    ∙ ap (λ n. read_type n (type_of c.args.gives.now.value)) c.entries.ensures))
