use Rattle.cc_worked_replies.proofs.WorkedSignatures as worked
use Rattle.cc_worked_replies.proofs.signatures.refused_signatures.Goals as goal

pub returns : goal.returns
returns c = worked.refused_signatures
