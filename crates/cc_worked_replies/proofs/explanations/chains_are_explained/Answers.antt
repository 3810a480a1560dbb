use Rattle.cc_worked_replies.proofs.WorkedExplanations as worked
use Rattle.cc_worked_replies.proofs.explanations.chains_are_explained.Goals as goal

pub returns : goal.returns
returns c = worked.chain_explained
