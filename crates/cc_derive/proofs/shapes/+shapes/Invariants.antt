use Rattle.std.proofs.Common.{◌+◌, ◌*◌}
use Rattle.cc_derive.proofs.shapes.+shapes.Given as goal

abbrev pub decreases-shapes_below : goal.decreases-shapes_below
decreases-shapes_below l = 8 * l.steps

abbrev pub decreases-types_below : goal.decreases-types_below
decreases-types_below l = 8 * l.steps + 1

abbrev pub decreases-variable_below : goal.decreases-variable_below
decreases-variable_below l = 8 * l.steps + 2

abbrev pub decreases-given_below : goal.decreases-given_below
decreases-given_below l = 8 * l.steps + 2

abbrev pub decreases-results_below : goal.decreases-results_below
decreases-results_below l = 8 * l.steps + 2

abbrev pub decreases-box_below : goal.decreases-box_below
decreases-box_below l = 8 * l.steps + 2

abbrev pub decreases-function_below : goal.decreases-function_below
decreases-function_below l = 8 * l.steps + 3

abbrev pub decreases-type_function_below : goal.decreases-type_function_below
decreases-type_function_below l = 8 * l.steps + 3

abbrev pub decreases-form_below : goal.decreases-form_below
decreases-form_below l = 8 * l.steps + 4

abbrev pub decreases-step_below : goal.decreases-step_below
decreases-step_below l = 8 * l.steps + 5
