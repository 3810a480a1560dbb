use Rattle.cc_typing_laws.proofs.ContextMapInstances.{longer_map, renaming_map, variable_map, shape_map, smaller_map}
use Rattle.cc_typing_laws.proofs.context_map_laws.maps_of_contexts.Goals as goal

pub returns : goal.returns
returns c =
    record {
      longer = longer_map;
      renaming = renaming_map;
      variable = variable_map;
      shape = shape_map;
      smaller = smaller_map;
    }
