use Rattle.std.proofs.Common.{map}
use Rattle.cc_core.specs.TermViews.{context_of}
use Rattle.cc_captured_reasons.proofs.ToldChains.{Reaches}
use Rattle.cc_captured_reasons.proofs.captured.chains_of.Given as goal

abbrev pub invariant-loop-elem : goal.invariant-loop-elem
invariant-loop-elem l = Reaches l.devices (context_of l.ctx) l.right l.captured (map (λ chain. chain.items) l.chains.items) l.elem-index
