use Rattle.cc_certificate_examples.proofs.WorkedComparisons as worked
use Rattle.cc_certificate_examples.proofs.comparison_certificates.type_functions_and_boxes.Goals as goal

pub returns : goal.returns
returns c = worked.type_functions_and_boxes
