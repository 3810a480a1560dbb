use Rattle.std.proofs.Common.{◌≡◌, ◌+◌, drop}
use Rattle.cc_policy.specs.Policies.{decision_from, decision_of}
use Rattle.cc_policy.proofs.policy.decide.Given as goal

abbrev pub invariant-loop-at : goal.invariant-loop-at
invariant-loop-at l = decision_from (l.at + 1) (drop l.at l.policy) l.«module» l.device ≡ decision_of l.policy l.«module» l.device
