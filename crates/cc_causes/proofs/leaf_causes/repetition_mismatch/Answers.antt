use Rattle.std.proofs.Common.{subst}
use Rattle.cc_base.specs.declared.literal.Base.TheVariants as bases
use Rattle.cc_core.specs.Shapes.{BaseShape}
use Rattle.cc_causes.specs.Views.{scene_of, cause_of}
use Rattle.cc_causes.specs.LeafReasons.{IsOfOperands}
use Rattle.cc_causes.proofs.LeafAnswers as answers
use Rattle.cc_causes.proofs.leaf_causes.repetition_mismatch.Goals as goal

pub returns : goal.returns
returns c =
    let scene = scene_of c.args.scene.now in
    let cause = cause_of c.in_ok-cause.cause in
    answers.repetition_mismatch scene c.args.count c.args.function c.args.code cause
    (subst (λ s. IsOfOperands scene c.args.count c.args.function (BaseShape bases.Int) s cause) c.in_ok-wanted.ensures
    c.in_ok-cause.ensures) c.requires.code
