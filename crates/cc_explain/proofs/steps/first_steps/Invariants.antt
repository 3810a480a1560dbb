use Rattle.std.proofs.Common.{◌≡◌, length}
use Rattle.cc_explain.specs.Steps.{AreFirstSteps}
use Rattle.cc_explain.proofs.steps.first_steps.Given as goal

abbrev pub invariant-loop-number : goal.invariant-loop-number
invariant-loop-number l =
    record { count : length l.steps.items ≡ l.number; steps : AreFirstSteps l.links l.to l.steps.items }
