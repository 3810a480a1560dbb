use Rattle.std.proofs.Common.{◌≡◌, map, drop}
use Rattle.cc_core.specs.Derivations.{SetBelow}
use Rattle.cc_core.specs.Substitution.{single}
use Rattle.cc_derivation.specs.DerivationViews.{premises_of}
use Rattle.cc_derivation.specs.Broken.{claims_of}
use Rattle.cc_derivation.specs.Rows as plain
use Rattle.cc_validity.proofs.comparisons.are_below.Given as goal

abbrev pub invariant-loop-others : goal.invariant-loop-others
invariant-loop-others l =
    plain.same_claims (claims_of (premises_of l.others)) (map (λ e. SetBelow (single e) l.right) (drop l.at l.left.list))
    ≡ plain.same_claims (claims_of (premises_of l.fn.premises)) (map (λ e. SetBelow (single e) l.right) (drop l.fn.index l.left.list))
