use Rattle.cc_policy.proofs.Deciding.{rules_decide_once}
use Rattle.cc_policy.proofs.policy_laws.rules_decide_once.Goals as goal

pub returns : goal.returns
returns c = rules_decide_once
