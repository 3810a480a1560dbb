use Rattle.std.proofs.Common.{◌+◌, ◌*◌}
use Rattle.cc_parse.proofs.types.+types.Given as goal

abbrev pub decreases-read_shape : goal.decreases-read_shape
decreases-read_shape l = 8 * l.room

abbrev pub decreases-read_type : goal.decreases-read_type
decreases-read_type l = 8 * l.room + 1

abbrev pub decreases-read_exit_shape : goal.decreases-read_exit_shape
decreases-read_exit_shape l = 8 * l.room + 2

abbrev pub decreases-read_box_shape : goal.decreases-read_box_shape
decreases-read_box_shape l = 8 * l.room + 2

abbrev pub decreases-read_inner_shape : goal.decreases-read_inner_shape
decreases-read_inner_shape l = 8 * l.room + 2

abbrev pub decreases-read_function_shape : goal.decreases-read_function_shape
decreases-read_function_shape l = 8 * l.room + 2

abbrev pub decreases-read_type_function_shape : goal.decreases-read_type_function_shape
decreases-read_type_function_shape l = 8 * l.room + 2

abbrev pub decreases-read_behind_name : goal.decreases-read_behind_name
decreases-read_behind_name l = 8 * l.room + 3

abbrev pub decreases-read_behind_paren : goal.decreases-read_behind_paren
decreases-read_behind_paren l = 8 * l.room + 4

abbrev pub decreases-read_shape_start : goal.decreases-read_shape_start
decreases-read_shape_start l = 8 * l.room + 5
