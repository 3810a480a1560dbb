use Rattle.std.proofs.Common.{[], ◌∷◌, length, map}
use mathlib.Core.List.{reverse}
use Rattle.cc_certificate_reading.specs.CertificateViews.{node_of}
use Rattle.cc_certificate_judging.specs.PassViews.{kinds_in, plain_read}
use Rattle.cc_certificate_judging.proofs.PassSteps.{Standing}
use Rattle.cc_certificate_judging.proofs.passes.read_nodes.Given as goal

abbrev pub invariant-loop-node : goal.invariant-loop-node
invariant-loop-node l =
    Standing (length l.fn.ctx) (kinds_in l.fn.ctx ∷ []) (reverse (map node_of l.fn.nodes)) (map plain_read l.reads.items)
    (map kinds_in l.waiting.items) (reverse (map node_of l.node-iterator.iter.rest.now))
