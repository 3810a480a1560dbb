use Rattle.std.proofs.Common.{◌≡◌, ◌++◌, map}
use Rattle.cc_derivation.specs.DerivationViews.{premises_of, der_of}
use Rattle.cc_validity.specs.Counting.{premise_list}
use Rattle.cc_validity.proofs.counting.wait_above.Given as goal

abbrev pub invariant-loop-left : goal.invariant-loop-left
invariant-loop-left l =
    map (λ d. der_of d.value) l.waiting.items ++ premise_list (premises_of l.left)
    ≡ map (λ d. der_of d.value) l.fn.waiting.items ++ premise_list (premises_of l.fn.premises)
