use Rattle.cc_policy.proofs.Deciding.{rules_decide}
use Rattle.cc_policy.proofs.policy_laws.rules_decide.Goals as goal

pub returns : goal.returns
returns c = rules_decide
