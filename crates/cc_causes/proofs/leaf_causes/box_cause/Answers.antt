use Rattle.std.proofs.Common.{◌≡◌, sym, ap, subst, ◌∙◌, rules}
use Rattle.cc_capture.specs.Sets.{empty}
use Rattle.cc_core.specs.Shapes.{BoxShape, capturing}
use Rattle.cc_core.specs.Terms.{BoxTerm}
use Rattle.cc_core.specs.TermViews.{type_of}
use Rattle.cc_reasons.specs.Causes.{TooLarge}
use Rattle.cc_causes.specs.Views.{scene_of}
use Rattle.cc_causes.specs.LeafReasons.{IsCauseIn}
use Rattle.cc_causes.proofs.LeafCauses.{box_large}
use Rattle.cc_causes.proofs.leaf_causes.box_cause.Goals as goal

pub returns : goal.returns
returns c =
    let scene = scene_of c.args.scene.now in
    let inside = type_of c.in_ok-inside.inside in
    let type : type_of c.pure_type.result ≡ capturing (BoxShape inside.shape inside.set) empty = search rules in
    subst (IsCauseIn c.args.code scene (BoxTerm c.args.content)) (sym (c.in_ok-cause.ensures ∙ ap (TooLarge scene) type))
    (box_large scene c.args.code c.args.content inside c.in_ok-inside.ensures)
