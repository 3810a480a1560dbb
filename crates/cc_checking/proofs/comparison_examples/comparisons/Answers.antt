use Rattle.cc_checking.proofs.ComputedExamples.{printing_demands, boxes_are_below_any, different_bounds_mismatch, variables_compare_as_their_bounds, parameters_go_right_to_left}
use Rattle.cc_checking.proofs.comparison_examples.comparisons.Goals as goal

pub returns : goal.returns
returns c =
    record {
      one_demand = printing_demands;
      below_any = boxes_are_below_any;
      bounds = different_bounds_mismatch;
      variables = variables_compare_as_their_bounds;
      functions = parameters_go_right_to_left;
    }
