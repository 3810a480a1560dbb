use Rattle.cc_hosting.proofs.WorkedHosting.{rules_bind_each_module, permitted_runs_are_told}
use Rattle.cc_hosting.proofs.hosted_examples.worked_hosting.Goals as goal

pub returns : goal.returns
returns c = record { rules = rules_bind_each_module; told = permitted_runs_are_told }
