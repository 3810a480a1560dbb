use Rattle.cc_certificate_examples.proofs.WorkedComparisons as worked
use Rattle.cc_certificate_examples.proofs.comparison_certificates.sets_below_sets.Goals as goal

pub returns : goal.returns
returns c = worked.sets_below_sets
