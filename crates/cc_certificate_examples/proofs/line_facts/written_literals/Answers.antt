use Rattle.cc_certificate_examples.proofs.WorkedLineFacts as worked
use Rattle.cc_certificate_examples.proofs.line_facts.written_literals.Goals as goal

pub returns : goal.returns
returns c = worked.written_literals
