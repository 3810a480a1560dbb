use Rattle.std.proofs.Common.{length}
use Rattle.cc_core.specs.TermViews.{context_of}
use Rattle.cc_certificate_reading.proofs.Progress.{StandsAt}
use Rattle.cc_certificate_reading.proofs.read.read_heading.Given as goal

abbrev pub invariant-loop-rest : goal.invariant-loop-rest
invariant-loop-rest l = StandsAt l.fn.bytes l.bound.names l.bound.binds.items (context_of l.bound.ctx) l.lines l.rest

abbrev pub decreases-loop-rest : goal.decreases-loop-rest
decreases-loop-rest l = length l.rest
