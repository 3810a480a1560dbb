use Rattle.std.proofs.Common.{◌≡◌, map, None}
use Rattle.cc_derivation.specs.DerivationViews.{der_of}
use Rattle.cc_derivation.specs.Broken.{broken}
use Rattle.cc_validity.specs.Spots.{place_of}
use Rattle.cc_validity.specs.Waiting.{standing_of, nodes_in, broken_in, first_or}
use Rattle.cc_validity.proofs.waiting.least_broken.Given as goal

abbrev pub invariant-loop-next : goal.invariant-loop-next
invariant-loop-next l =
    record {
      number : l.number ≡ nodes_in (map standing_of l.waiting.items);
      least : first_or (broken_in 0 (map standing_of l.waiting.items)) l.least
          ≡ first_or (broken 0 (place_of l.fn.spot) (der_of l.fn.der.value)) None;
    }

abbrev pub decreases-loop-next : goal.decreases-loop-next
decreases-loop-next l = l.number
