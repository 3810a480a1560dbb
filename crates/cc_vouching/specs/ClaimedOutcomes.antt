-- What comes of a definition as a function of what is found of its claim. It serves the code, and the laws.
use Rattle.std.specs.Prelude.{◌≡◌, ◌↔◌, ℕ, List, Option, Some, None, Result, Ok, Err, if◌then◌else◌}
use Rattle.cc_core.specs.Shapes.{CapturingType}
use Rattle.cc_filled.specs.FilledTests.{is_filled_as}
use Rattle.cc_mnf.specs.ElaboratedModules.{CoreDefinition}
use Rattle.cc_verdicts.specs.ModuleVerdicts.{Refusal}
use Rattle.cc_certificate_text.specs.Certificates.{IsBadLine}
use Rattle.cc_certificate_judging.specs.Answers.{IsBroken}
use Rattle.cc_vouching.specs.Submissions.{Claim}
use Rattle.cc_vouching.specs.VouchedDefinitions.{Proof, IsProofOf, NoClaim, BadLine, BadNode, AnotherTerm, AnotherBind, Refused}
use Rattle.cc_vouching.specs.VouchedDefinitions.{Outcome, IsVouchedFor, IsNotVouchedFor, Surroundings, claim_named, known_binds}
use Rattle.cc_vouching.specs.VouchedDefinitions.{first_difference, signature_by, vouched_signature, vouched_definition, HasOutcome}

-- What is found of the claim of a definition: there is none; its bytes are no certificate, or one that is not valid; or
-- they are a valid one, which says this.
pub data Claimed : Type 0 where
  Unclaimed : Claimed
  Misread : (line : ℕ) → Claimed
  Broken : (number : ℕ) → Claimed
  Proven : (proof : Proof) → Claimed

-- this is found of the bytes, if there are any
abbrev pub IsClaimedAs : Option (List ℕ) → Claimed → Type 0
IsClaimedAs None Unclaimed = Unit {0}
IsClaimedAs None (Misread line) = ⊥
IsClaimedAs None (Broken number) = ⊥
IsClaimedAs None (Proven proof) = ⊥
IsClaimedAs (Some bytes) Unclaimed = ⊥
IsClaimedAs (Some bytes) (Misread line) = IsBadLine bytes line
IsClaimedAs (Some bytes) (Broken number) = IsBroken bytes number
IsClaimedAs (Some bytes) (Proven proof) = IsProofOf bytes proof

-- what comes of it where this is the signature by the certificate, or the refusal
abbrev pub outcome_signed : CoreDefinition → Proof → Result CapturingType Refusal → Outcome
outcome_signed definition proof (Ok signature) = IsVouchedFor (vouched_definition definition proof signature)
outcome_signed definition proof (Err refusal) = IsNotVouchedFor (Refused refusal)

-- what comes of it where this is the first bind that is another one, if one is
abbrev pub outcome_bound : Surroundings → CoreDefinition → Proof → Option ℕ → Outcome
outcome_bound it definition proof (Some number) = IsNotVouchedFor (AnotherBind number)
outcome_bound it definition proof None =
    outcome_signed definition proof (vouched_signature it.devices definition proof)

-- what comes of it
abbrev pub outcome_by : Surroundings → CoreDefinition → Claimed → Outcome
outcome_by it definition Unclaimed = IsNotVouchedFor NoClaim
outcome_by it definition (Misread line) = IsNotVouchedFor (BadLine line)
outcome_by it definition (Broken number) = IsNotVouchedFor (BadNode number)
outcome_by it definition (Proven proof) =
    if is_filled_as definition.right proof.term
    then outcome_bound it definition proof
    (first_difference proof.binds (known_binds it definition (signature_by it.devices proof proof.type)))
    else IsNotVouchedFor AnotherTerm

-- A definition has the outcome that the function gives for what is found of its claim, and no other.
abbrev pub OutcomesGoByClaims : Type 0
OutcomesGoByClaims =
    (it : Surroundings) (definition : CoreDefinition) (claims : List Claim) (outcome : Outcome)
    → HasOutcome it definition claims outcome
    ↔ ((claimed : Claimed) × IsClaimedAs (claim_named definition.name claims) claimed
    × (outcome ≡ outcome_by it definition claimed))
