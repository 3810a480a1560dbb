use Rattle.cc_typing_laws.proofs.WorkedExamples.{results_are_under_the_right_parameter}
use Rattle.cc_typing_laws.proofs.typing_examples.results_of_functions.Goals as goal

pub returns : goal.returns
returns c = results_are_under_the_right_parameter
