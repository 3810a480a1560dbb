use Rattle.std.proofs.Common.{◌≡◌, length}
use Rattle.cc_core.specs.TermViews.{context_of}
use Rattle.cc_known.specs.KeptWalks.{StandsOn}
use Rattle.cc_known.proofs.bases.oldest.Given as goal

abbrev pub invariant-loop-position : goal.invariant-loop-position
invariant-loop-position l = StandsOn (context_of l.first) (context_of l.ctx) × (length (context_of l.first) ≡ l.position)
