use Rattle.cc_certificate_examples.proofs.WorkedNames as worked
use Rattle.cc_certificate_examples.proofs.name_examples.binders_around.Goals as goal

pub returns : goal.returns
returns c = worked.binders_around
