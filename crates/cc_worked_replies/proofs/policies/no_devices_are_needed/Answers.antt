use Rattle.cc_worked_replies.proofs.WorkedPolicies as worked
use Rattle.cc_worked_replies.proofs.policies.no_devices_are_needed.Goals as goal

pub returns : goal.returns
returns c = worked.no_devices_are_needed
