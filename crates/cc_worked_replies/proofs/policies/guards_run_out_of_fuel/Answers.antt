use Rattle.cc_worked_replies.proofs.WorkedPolicies as worked
use Rattle.cc_worked_replies.proofs.policies.guards_run_out_of_fuel.Goals as goal

pub returns : goal.returns
returns c = worked.guards_run_out_of_fuel
