use Rattle.cc_certificate_examples.proofs.WorkedNames as worked
use Rattle.cc_certificate_examples.proofs.name_examples.numbers_of_binders.Goals as goal

pub returns : goal.returns
returns c = worked.numbers_of_binders
