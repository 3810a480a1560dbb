use Rattle.cc_worked_replies.proofs.WorkedExplanations as worked
use Rattle.cc_worked_replies.proofs.explanations.refused_explanations.Goals as goal

pub returns : goal.returns
returns c = worked.refused_explanations
