use Rattle.cc_certificate_examples.proofs.WorkedLineFacts as worked
use Rattle.cc_certificate_examples.proofs.line_facts.binds_that_fit.Goals as goal

pub returns : goal.returns
returns c = worked.binds_that_fit
