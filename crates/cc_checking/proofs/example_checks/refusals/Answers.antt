use Rattle.cc_checking.proofs.ComputedChecks.{console_is_no_unit, unit_is_no_function, bounds_keep_their_names, bounds_have_to_be_the_same}
use Rattle.cc_checking.proofs.example_checks.refusals.Goals as goal

pub returns : goal.returns
returns c =
    record {
      wrong_shape_given = console_is_no_unit;
      wrong_head = unit_is_no_function;
      unavoidable = bounds_keep_their_names;
      different_bounds = bounds_have_to_be_the_same;
    }
