use Rattle.cc_worked_replies.proofs.WorkedExplanations as worked
use Rattle.cc_worked_replies.proofs.explanations.three_modules_are_explained.Goals as goal

pub returns : goal.returns
returns c = worked.three_modules_explained
