use Rattle.std.proofs.Common.{sym, ap, subst, ◌∙◌}
use Rattle.cc_base.specs.Literals.{literal_of}
use Rattle.cc_core.specs.Terms.{LiteralTerm}
use Rattle.cc_causes.specs.Views.{scene_of}
use Rattle.cc_checking.specs.Inference.{base_type}
use Rattle.cc_reasons.specs.Causes.{TooLarge}
use Rattle.cc_causes.specs.LeafReasons.{IsCauseIn}
use Rattle.cc_causes.proofs.LeafCauses.{literal_large}
use Rattle.cc_causes.proofs.leaf_causes.literal_cause.Goals as goal

pub returns : goal.returns
returns c =
    let scene = scene_of c.args.scene.now in
    let literal = literal_of c.args.literal.now in
    subst (IsCauseIn c.args.code scene (LiteralTerm literal))
    (sym (c.in_ok-cause.ensures ∙ ap (TooLarge scene) (c.in_ok-ty.ensures ∙ ap base_type c.base_of.ensures)))
    (literal_large scene c.args.code literal)
