use Rattle.cc_worked_replies.proofs.WorkedPolicies as worked
use Rattle.cc_worked_replies.proofs.policies.policies_decide.Goals as goal

pub returns : goal.returns
returns c = worked.policies_decide
