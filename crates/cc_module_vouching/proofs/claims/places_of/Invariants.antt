use Rattle.std.proofs.Common.{◌≡◌, ◌≤◌, ℕ, List, length, drop}
use Rattle.cc_module_vouching.specs.ClaimViews.{place_in, claim_at, first_claim}
use Rattle.cc_module_vouching.proofs.claims.places_of.Given as goal

abbrev pub invariant-loop-left : goal.invariant-loop-left
invariant-loop-left l = record {
  within : l.left ≤ length l.claims;
  finds : (name : List ℕ) → claim_at l.claims (place_in l.places name) ≡ first_claim name (drop l.left l.claims);
}

abbrev pub decreases-loop-left : goal.decreases-loop-left
decreases-loop-left l = l.left
