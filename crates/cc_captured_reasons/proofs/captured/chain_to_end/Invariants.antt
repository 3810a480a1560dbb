use Rattle.cc_core.specs.TermViews.{context_of}
use Rattle.cc_captured_reasons.proofs.ChainSteps.{Goes}
use Rattle.cc_captured_reasons.proofs.captured.chain_to_end.Given as goal

abbrev pub invariant-loop-number : goal.invariant-loop-number
invariant-loop-number l = Goes l.devices (context_of l.ctx) l.right l.told l.fn.from l.current l.chain.items l.number

abbrev pub decreases-loop-number : goal.decreases-loop-number
decreases-loop-number l = l.number
