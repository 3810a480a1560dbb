use Rattle.std.proofs.Common.{◌≡◌, map, length}
use Rattle.cc_derivation.specs.DerivationViews.{premises_of, der_of}
use Rattle.cc_derive.specs.Trees.{listed_before, listed}
use Rattle.cc_derive.proofs.trees.listing.Given as goal

abbrev pub invariant-loop-der : goal.invariant-loop-der
invariant-loop-der l =
    listed_before (map (λ d. der_of d.value) l.left.items) (premises_of l.list)
    ≡ listed (map (λ d. der_of d.value) l.fn.ders.items)

abbrev pub decreases-loop-der : goal.decreases-loop-der
decreases-loop-der l = length l.left.items
