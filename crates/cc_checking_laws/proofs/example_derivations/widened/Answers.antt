use Rattle.cc_checking_laws.proofs.WorkedDerivations.{written_names_are_widened, other_names_are_not, opened_boxes_are_widened, opened_boxes_have_the_set, exposed_heads_are_widened, wholes_are_widened, branches_are_widened, bodies_of_boundaries_are_widened}
use Rattle.cc_checking_laws.proofs.example_derivations.widened.Goals as goal

pub returns : goal.returns
returns c = record { written = written_names_are_widened; others = other_names_are_not; opened = opened_boxes_are_widened; opened_with = opened_boxes_have_the_set; exposed = exposed_heads_are_widened; wholes = wholes_are_widened; branches = branches_are_widened; boundaries = bodies_of_boundaries_are_widened }
