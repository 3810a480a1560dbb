use Rattle.cc_worked_replies.proofs.WorkedDerivations as worked
use Rattle.cc_worked_replies.proofs.derivations.refused_derivations.Goals as goal

pub returns : goal.returns
returns c = worked.refused_derivations
