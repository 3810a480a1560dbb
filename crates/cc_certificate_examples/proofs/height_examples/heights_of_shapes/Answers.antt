use Rattle.cc_certificate_examples.proofs.WorkedHeights as worked
use Rattle.cc_certificate_examples.proofs.height_examples.heights_of_shapes.Goals as goal

pub returns : goal.returns
returns c = worked.heights_of_shapes
