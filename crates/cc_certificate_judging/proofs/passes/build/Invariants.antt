use Rattle.std.proofs.Common.{length, map}
use mathlib.Core.List.{reverse}
use Rattle.cc_derivation.specs.DerivationViews.{der_of}
use Rattle.cc_certificate_judging.specs.PassViews.{plain_read}
use Rattle.cc_certificate_judging.proofs.PassSteps.{Building}
use Rattle.cc_certificate_judging.proofs.passes.build.Given as goal

abbrev pub invariant-loop-node : goal.invariant-loop-node
invariant-loop-node l =
    Building (reverse (map plain_read l.fn.reads.items)) (map (λ d. der_of d.value) l.built.items) (reverse (map plain_read l.left.items))

abbrev pub decreases-loop-node : goal.decreases-loop-node
decreases-loop-node l = length l.left.items
