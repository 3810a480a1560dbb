use Rattle.cc_typing_laws.proofs.ContextMapInstances.{subtypes_weaken, subtypes_narrow, subtypes_rename, puts_variables, puts_shapes}
use Rattle.cc_typing_laws.proofs.context_map_laws.subtyping_in_other_contexts.Goals as goal

pub returns : goal.returns
returns c =
    record {
      weakens = subtypes_weaken;
      narrows = subtypes_narrow;
      renames = subtypes_rename;
      puts_variables = puts_variables;
      puts_shapes = puts_shapes;
    }
