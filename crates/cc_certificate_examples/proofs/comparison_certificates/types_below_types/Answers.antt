use Rattle.cc_certificate_examples.proofs.WorkedComparisons as worked
use Rattle.cc_certificate_examples.proofs.comparison_certificates.types_below_types.Goals as goal

pub returns : goal.returns
returns c = worked.types_below_types
