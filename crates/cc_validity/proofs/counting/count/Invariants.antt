use Rattle.std.proofs.Common.{◌≡◌, ◌+◌, map}
use Rattle.cc_derivation.specs.DerivationViews.{der_of}
use Rattle.cc_checking.specs.DerivationSizes.{nodes}
use Rattle.cc_validity.specs.Counting.{nodes_together}
use Rattle.cc_validity.proofs.counting.count.Given as goal

abbrev pub invariant-loop-next : goal.invariant-loop-next
invariant-loop-next l = l.number + nodes_together (map (λ d. der_of d.value) l.waiting.items) ≡ nodes (der_of l.fn.der.value)

abbrev pub decreases-loop-next : goal.decreases-loop-next
decreases-loop-next l = nodes_together (map (λ d. der_of d.value) l.waiting.items)
