use Rattle.cc_typing_laws.proofs.WorkedExamples.{identity_at_boxes, different_bounds_are_not_below}
use Rattle.cc_typing_laws.proofs.typing_examples.type_functions.Goals as goal

pub returns : goal.returns
returns c =
    record {
      applied = identity_at_boxes;
      not_below = different_bounds_are_not_below;
    }
