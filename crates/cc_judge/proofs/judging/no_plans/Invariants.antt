use Rattle.std.proofs.Common.{◌≡◌, None, replicate}
use Rattle.cc_judge.proofs.judging.no_plans.Given as goal

abbrev pub invariant-loop : goal.invariant-loop
invariant-loop l = l.plans.items ≡ replicate l.counter None
