use Rattle.cc_core.specs.TermViews.{type_of, context_of}
use Rattle.cc_known.proofs.FormedParts.{variable_well_formed}
use Rattle.cc_type.proofs.heads.type_of_variable.Goals as goal

pub returns-clause-formed : goal.returns-clause-formed
returns-clause-formed c =
    variable_well_formed (context_of c.args.ctx.now) c.in_context.result
    (type_of c.in_ok-ty.ty) c.requires c.in_ok-ty.ensures
