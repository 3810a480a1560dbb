use Rattle.cc_certificate_examples.proofs.WorkedLines as worked
use Rattle.cc_certificate_examples.proofs.certificate_texts.first_lines.Goals as goal

pub returns : goal.returns
returns c = worked.first_lines
