use Rattle.cc_certificate_examples.proofs.WorkedLineFacts as worked
use Rattle.cc_certificate_examples.proofs.line_facts.arguments_of_operations.Goals as goal

pub returns : goal.returns
returns c = worked.arguments_of_operations
