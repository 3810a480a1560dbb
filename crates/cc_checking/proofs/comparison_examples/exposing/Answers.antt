use Rattle.cc_checking.proofs.ComputedExamples.{exposing_goes_on}
use Rattle.cc_checking.proofs.comparison_examples.exposing.Goals as goal

pub returns : goal.returns
returns c = exposing_goes_on
