use Rattle.std.proofs.Common.{sym, subst}
use Rattle.cc_core.specs.Terms.{VariableTerm}
use Rattle.cc_core.specs.TermViews.{type_of}
use Rattle.cc_causes.specs.Views.{scene_of}
use Rattle.cc_causes.specs.LeafReasons.{IsCauseIn}
use Rattle.cc_causes.proofs.LeafCauses.{variable_large}
use Rattle.cc_causes.proofs.leaf_causes.variable_cause.Goals as goal

pub returns : goal.returns
returns c =
    let scene = scene_of c.args.scene.now in
    subst (IsCauseIn c.args.code scene (VariableTerm c.args.variable)) (sym c.in_ok-cause.ensures)
    (variable_large scene c.args.code c.args.variable (type_of c.in_ok-ty.ty) c.in_ok-ty.ensures)
