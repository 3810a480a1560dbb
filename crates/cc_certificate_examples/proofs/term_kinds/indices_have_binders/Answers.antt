use Rattle.cc_certificate_examples.proofs.WorkedTermKinds as worked
use Rattle.cc_certificate_examples.proofs.term_kinds.indices_have_binders.Goals as goal

pub returns : goal.returns
returns c = worked.indices_have_binders
