use Rattle.cc_typing_laws.proofs.Inversions.{variables_invert, literals_invert, function_bodies_invert, type_functions_invert, box_contents_invert}
use Rattle.cc_typing_laws.proofs.inversion_laws.inversion_of_values.Goals as goal

pub returns : goal.returns
returns c =
    record {
      variables = variables_invert;
      literals = literals_invert;
      functions = function_bodies_invert;
      type_functions = type_functions_invert;
      boxes = box_contents_invert;
    }
