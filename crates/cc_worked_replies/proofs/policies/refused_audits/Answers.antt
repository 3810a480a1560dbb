use Rattle.cc_worked_replies.proofs.WorkedPolicies as worked
use Rattle.cc_worked_replies.proofs.policies.refused_audits.Goals as goal

pub returns : goal.returns
returns c = worked.refused_audits
