use Rattle.cc_certificate_examples.proofs.WorkedLineFacts as worked
use Rattle.cc_certificate_examples.proofs.line_facts.forms_beyond_the_limit.Goals as goal

pub returns : goal.returns
returns c = worked.forms_beyond_the_limit
