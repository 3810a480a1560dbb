use Rattle.std.proofs.Common.{◌≡◌}
use Rattle.cc_derivation.specs.DerivationViews.{premises_of}
use Rattle.cc_derivation.specs.Broken.{claims_of, are_as_many}
use Rattle.cc_validity.specs.Spots.{places_of}
use Rattle.cc_validity.proofs.premises.are_as_many.Given as goal

-- there are as many of what is left
abbrev pub invariant-loop-places : goal.invariant-loop-places
invariant-loop-places l =
    are_as_many (places_of l.places) (claims_of (premises_of l.left))
    ≡ are_as_many (places_of l.fn.spots) (claims_of (premises_of l.fn.premises))
