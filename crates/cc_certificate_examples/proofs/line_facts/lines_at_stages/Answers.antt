use Rattle.cc_certificate_examples.proofs.WorkedLineFacts as worked
use Rattle.cc_certificate_examples.proofs.line_facts.lines_at_stages.Goals as goal

pub returns : goal.returns
returns c = worked.lines_at_stages
