use Rattle.std.proofs.Common.{sym, ◌∙◌, subst}
use Rattle.cc_checking.specs.Inference.{exit_entry}
use Rattle.cc_core.specs.TermViews.{shape_of, context_of}
use Rattle.cc_known.specs.Measures.{AreMeasuresOf}
use Rattle.cc_type.proofs.MeasuredEntries.{more_measured}
use Rattle.cc_reasoning.proofs.scenes.boundary_scene.Goals as goal

pub returns-clause-measures : goal.returns-clause-measures
returns-clause-measures c =
    subst (AreMeasuresOf c.args.measures.now) (sym (c.in_ok-inner.ensures.context ∙ c.in_ok-ctx.ensures.is))
    (more_measured c.args.measures.now (exit_entry (shape_of c.args.gives.now.value)) (context_of c.args.scene.now.ctx) c.requires.measures)
