use Rattle.cc_worked_replies.proofs.WorkedPolicies as worked
use Rattle.cc_worked_replies.proofs.policies.refused_guards.Goals as goal

pub returns : goal.returns
returns c = worked.refused_guards
