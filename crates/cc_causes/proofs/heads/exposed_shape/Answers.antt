use Rattle.std.proofs.Common.{ap, ◌∙◌}
use Rattle.cc_core.specs.Captured.{variable_set}
use Rattle.cc_core.specs.Shapes.{capturing}
use Rattle.cc_core.specs.TermViews.{shape_of, context_of}
use Rattle.cc_checking.specs.Inference.{in_context}
use Rattle.cc_causes.proofs.heads.exposed_shape.Goals as goal

pub returns : goal.returns
returns c = record {
  type = capturing (shape_of c.in_ok-shape.shape.value)
      (variable_set (in_context (context_of c.args.ctx.now) c.args.variable));
  found = c.in_ok-shape.ensures.is;
  is = ap shape_of c.in_ok-reached.ensures.cases ∙ c.expose.ensures;
}
