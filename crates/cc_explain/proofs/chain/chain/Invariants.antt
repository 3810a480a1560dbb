use Rattle.std.proofs.Common.{length}
use Rattle.cc_explain.proofs.Walk.{StandsAt}
use Rattle.cc_explain.specs.Targets.{rank}
use Rattle.cc_explain.proofs.chain.chain.Given as goal

abbrev pub invariant-loop-next : goal.invariant-loop-next
invariant-loop-next l = StandsAt l.links l.from l.fn.to (length l.steps.items) l.target l.chain.items

abbrev pub decreases-loop-next : goal.decreases-loop-next
decreases-loop-next l = rank l.target
