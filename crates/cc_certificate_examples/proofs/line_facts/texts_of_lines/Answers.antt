use Rattle.cc_certificate_examples.proofs.WorkedLineFacts as worked
use Rattle.cc_certificate_examples.proofs.line_facts.texts_of_lines.Goals as goal

pub returns : goal.returns
returns c = worked.texts_of_lines
