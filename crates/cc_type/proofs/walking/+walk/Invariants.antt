use Rattle.std.proofs.Common.{◌+◌, ◌*◌}
use Rattle.cc_type.proofs.walking.+walk.Given as goal

abbrev pub decreases-keep_shapes : goal.decreases-keep_shapes
decreases-keep_shapes l = 8 * l.steps

abbrev pub decreases-keep_types : goal.decreases-keep_types
decreases-keep_types l = 8 * l.steps + 1

abbrev pub decreases-keep_new : goal.decreases-keep_new
decreases-keep_new l = 8 * l.steps + 1

abbrev pub decreases-keep_bound : goal.decreases-keep_bound
decreases-keep_bound l = 8 * l.steps + 3

abbrev pub decreases-walk_bound : goal.decreases-walk_bound
decreases-walk_bound l = 8 * l.steps + 4

abbrev pub decreases-keep_variable : goal.decreases-keep_variable
decreases-keep_variable l = 8 * l.steps + 5

abbrev pub decreases-keep_boxes : goal.decreases-keep_boxes
decreases-keep_boxes l = 8 * l.steps + 2

abbrev pub decreases-keep_type_functions : goal.decreases-keep_type_functions
decreases-keep_type_functions l = 8 * l.steps + 2

abbrev pub decreases-keep_functions : goal.decreases-keep_functions
decreases-keep_functions l = 8 * l.steps + 2

abbrev pub decreases-keep_form : goal.decreases-keep_form
decreases-keep_form l = 8 * l.steps + 6

abbrev pub decreases-keep_own : goal.decreases-keep_own
decreases-keep_own l = 8 * l.steps + 2

abbrev pub decreases-keep_keyed : goal.decreases-keep_keyed
decreases-keep_keyed l = 8 * l.steps + 1
