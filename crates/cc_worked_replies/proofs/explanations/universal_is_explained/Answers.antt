use Rattle.cc_worked_replies.proofs.WorkedExplanations as worked
use Rattle.cc_worked_replies.proofs.explanations.universal_is_explained.Goals as goal

pub returns : goal.returns
returns c = worked.universal_explained
