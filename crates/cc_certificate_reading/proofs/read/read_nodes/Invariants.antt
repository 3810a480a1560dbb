use Rattle.std.proofs.Common.{length}
use Rattle.cc_certificate_reading.proofs.Progress.{NodesAt}
use Rattle.cc_certificate_reading.proofs.read.read_nodes.Given as goal

abbrev pub invariant-loop-rest : goal.invariant-loop-rest
invariant-loop-rest l = NodesAt l.fn.bytes l.fn.heading l.nodes.items l.count l.unused.items l.lines l.rest

abbrev pub decreases-loop-rest : goal.decreases-loop-rest
decreases-loop-rest l = length l.rest
