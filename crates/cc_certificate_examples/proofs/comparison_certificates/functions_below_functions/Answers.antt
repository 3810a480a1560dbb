use Rattle.cc_certificate_examples.proofs.WorkedComparisons as worked
use Rattle.cc_certificate_examples.proofs.comparison_certificates.functions_below_functions.Goals as goal

pub returns : goal.returns
returns c = worked.functions_below_functions
