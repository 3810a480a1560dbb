use Rattle.cc_checking.proofs.ComputedExamples.{avoiding_widens_and_narrows, avoiding_turns_twice, bounds_are_not_avoided, exits_are_not_avoided}
use Rattle.cc_checking.proofs.comparison_examples.avoidance.Goals as goal

pub returns : goal.returns
returns c =
    record {
      widens_and_narrows = avoiding_widens_and_narrows;
      turns_twice = avoiding_turns_twice;
      bounds = bounds_are_not_avoided;
      exits = exits_are_not_avoided;
    }
