use Rattle.std.proofs.Common.{◌≡◌, ◌++◌, map}
use Rattle.cc_derivation.specs.DerivationViews.{premises_of}
use Rattle.cc_validity.specs.Spots.{places_of}
use Rattle.cc_validity.specs.Waiting.{standing_of, standing_among}
use Rattle.cc_validity.proofs.waiting.wait_for.Given as goal

abbrev pub invariant-loop-spots : goal.invariant-loop-spots
invariant-loop-spots l =
    map standing_of l.waiting.items ++ standing_among (places_of l.spots) (premises_of l.left)
    ≡ map standing_of l.fn.waiting.items ++ standing_among (places_of l.fn.places) (premises_of l.fn.premises)
