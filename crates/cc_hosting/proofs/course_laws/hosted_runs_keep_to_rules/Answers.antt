use Rattle.cc_hosting.proofs.HostedRules.{hosted_runs_keep_to_rules}
use Rattle.cc_hosting.proofs.course_laws.hosted_runs_keep_to_rules.Goals as goal

pub returns : goal.returns
returns c = hosted_runs_keep_to_rules
