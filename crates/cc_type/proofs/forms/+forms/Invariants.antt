use Rattle.std.proofs.Common.{◌+◌, ◌*◌}
use Rattle.cc_type.proofs.forms.+forms.Given as goal

abbrev pub decreases-shapes_match : goal.decreases-shapes_match
decreases-shapes_match l = 4 * l.steps

abbrev pub decreases-types_match : goal.decreases-types_match
decreases-types_match l = 4 * l.steps + 1

abbrev pub decreases-functions_match : goal.decreases-functions_match
decreases-functions_match l = 4 * l.steps + 2

abbrev pub decreases-boxes_match : goal.decreases-boxes_match
decreases-boxes_match l = 4 * l.steps + 2

abbrev pub decreases-form_matches : goal.decreases-form_matches
decreases-form_matches l = 4 * l.steps + 3
