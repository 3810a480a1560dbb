use Rattle.cc_certificate_examples.proofs.WorkedLineFacts as worked
use Rattle.cc_certificate_examples.proofs.line_facts.terms_that_fit.Goals as goal

pub returns : goal.returns
returns c = worked.terms_that_fit
