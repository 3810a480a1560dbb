-- What comes of a definition by the binds that are known is what comes of it where it stands.
use Rattle.std.proofs.Common.{◌≡◌, ℕ, cond, List, ◌++◌, length, Option, Some, None, refl, ap, subst}
use Rattle.cc_filled.specs.FilledTests.{is_filled_as}
use Rattle.cc_mnf.specs.ElaboratedModules.{CoreDefinition}
use Rattle.cc_vouching.specs.ClaimedOutcomes.{Claimed, Unclaimed, Misread, Broken, Proven, IsClaimedAs, outcome_bound, outcome_by}
use Rattle.cc_vouching.specs.Submissions.{Claim}
use Rattle.cc_vouching.specs.VouchedDefinitions.{Proof, AnotherTerm, IsNotVouchedFor, Surroundings, claim_named, known_binds, first_difference, signature_by, HasOutcome}
use Rattle.cc_vouching.proofs.ClaimedOutcomes.{outcomes_go_by_claims}
use Rattle.cc_vouch.specs.KnownOutcomes.{outcome_different, outcome_known}
use Rattle.cc_vouch.specs.OutcomeLaws.{standing_binds, KnownOutcomesAreThem}

same_different : (it : Surroundings) (definition : CoreDefinition) (proof : Proof) (difference : Option ℕ)
    → outcome_bound it definition proof difference
    ≡ outcome_different (length it.devices) definition proof difference
same_different it definition proof (Some number) = refl
same_different it definition proof None = refl

same_outcome : (it : Surroundings) (definition : CoreDefinition) (claimed : Claimed)
    → outcome_by it definition claimed
    ≡ outcome_known (length it.devices) (standing_binds it) definition claimed
same_outcome it definition Unclaimed = refl
same_outcome it definition (Misread line) = refl
same_outcome it definition (Broken number) = refl
same_outcome it definition (Proven proof) =
    ap (λ o. cond (is_filled_as definition.right proof.term) o (IsNotVouchedFor AnotherTerm))
    (same_different it definition proof
    (first_difference proof.binds (known_binds it definition (signature_by it.devices proof proof.type))))

pub known_outcomes_are_them : KnownOutcomesAreThem
known_outcomes_are_them it definition claims claimed is =
    subst (HasOutcome it definition claims) (same_outcome it definition claimed)
    ((outcomes_go_by_claims it definition claims (outcome_by it definition claimed)).1 (claimed, is, refl))
