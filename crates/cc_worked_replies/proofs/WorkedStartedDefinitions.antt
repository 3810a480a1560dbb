-- Which definitions can be run, by example, and why others cannot, by computation.
use Rattle.std.proofs.Common.{refl}
use Rattle.cc_worked_replies.specs.StartedDefinitions as example

pub runnable_shapes : example.RunnableShapes
runnable_shapes = record {
  of_unit = refl;
  of_unit_with_a_set = refl;
  of_a_truth = refl;
  of_a_number = refl;
  of_a_text = refl;
  of_a_console = refl;
  of_a_file = refl;
  of_a_counter = refl;
  of_any = refl;
  of_a_type_variable = refl;
  of_a_function = refl;
  of_a_type_function = refl;
  of_a_box = refl;
  of_an_exit = refl;
  unit_value = refl;
  any = refl;
  type_variable = refl;
  type_function = refl;
  box = refl;
  exit = refl;
}

pub started_by_name : example.StartedByName
started_by_name = record {
  function = refl;
  number = refl;
  no_definition = refl;
  refused = refl;
  no_module = refl;
  definitions_of_an_accepted_one = refl;
  definitions_of_a_refused_one = refl;
}
