use Rattle.cc_certificate_examples.proofs.WorkedTermKinds as worked
use Rattle.cc_certificate_examples.proofs.term_kinds.parts_of_shapes_have_kinds.Goals as goal

pub returns : goal.returns
returns c = worked.parts_of_shapes_have_kinds
