use Rattle.cc_core.specs.Captured.{variable_set}
use Rattle.cc_core.specs.Shapes.{capturing}
use Rattle.cc_core.specs.TermViews.{shape_of, context_of}
use Rattle.cc_known.proofs.FormedParts.{variable_well_formed, shape_well_formed}
use Rattle.cc_causes.proofs.heads.shape_of_variable.Goals as goal

pub returns-in-Ok-clause-formed : goal.returns-in-Ok-clause-formed
returns-in-Ok-clause-formed c =
    let g = context_of c.args.ctx.now in
    let type = capturing (shape_of c.in-Ok.shape.value) (variable_set c.in_context.result) in
    shape_well_formed g type (variable_well_formed g c.in_context.result type c.requires c.in-Ok.ensures)
