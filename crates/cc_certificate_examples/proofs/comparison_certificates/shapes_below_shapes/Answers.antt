use Rattle.cc_certificate_examples.proofs.WorkedComparisons as worked
use Rattle.cc_certificate_examples.proofs.comparison_certificates.shapes_below_shapes.Goals as goal

pub returns : goal.returns
returns c = worked.shapes_below_shapes
