-- What comes of a definition where what is known of it is a list. It serves the code alone.
use Rattle.std.specs.Prelude.{ℕ, List, [], ◌∷◌, ◌++◌, Option, Some, None, if◌then◌else◌}
use Rattle.cc_core.specs.Shapes.{CapturingType}
use Rattle.cc_filled.specs.FilledTests.{is_filled_as}
use Rattle.cc_mnf.specs.ElaboratedModules.{CoreDefinition}
use Rattle.cc_checking.specs.Verdicts.{signature_of}
use Rattle.cc_certificate_judging.specs.CertificateParts.{CertificateBind, bound_context}
use Rattle.cc_vouching.specs.ClaimedOutcomes.{Claimed, Unclaimed, Misread, Broken, Proven, outcome_signed}
use Rattle.cc_vouching.specs.VouchedDefinitions.{Proof, NoClaim, BadLine, BadNode, AnotherTerm, AnotherBind, Outcome, IsNotVouchedFor}
use Rattle.cc_vouching.specs.VouchedDefinitions.{own_bind, first_difference, written_type, agreed_signature}

-- the signature of a type by the certificate, beside so many devices
abbrev pub signature_behind : ℕ → Proof → CapturingType → Option CapturingType
signature_behind devices proof type = signature_of devices (bound_context proof.binds) type

-- what comes of a definition which the certificate is about, where this is the signature of the type that is proved
abbrev pub outcome_about : ℕ → CoreDefinition → Proof → Option CapturingType → Outcome
outcome_about devices definition proof proved =
    outcome_signed definition proof
    (agreed_signature definition proved
    (signature_behind devices proof (written_type definition.note proof.type)))

-- the bind of a definition for those behind it, where it is not known yet
abbrev pub later_bind : CoreDefinition → CapturingType → List CertificateBind
later_bind definition signature = if definition.recursive then [] else (definition.name, signature) ∷ []

abbrev pub outcome_different : ℕ → CoreDefinition → Proof → Option ℕ → Outcome
outcome_different devices definition proof (Some number) = IsNotVouchedFor (AnotherBind number)
outcome_different devices definition proof None =
    outcome_about devices definition proof (signature_behind devices proof proof.type)

-- what comes of a definition with a valid certificate
abbrev pub outcome_proven : ℕ → List CertificateBind → CoreDefinition → Proof → Outcome
outcome_proven devices known definition proof =
    if is_filled_as definition.right proof.term
    then outcome_different devices definition proof
    (first_difference proof.binds (known ++ own_bind definition (signature_behind devices proof proof.type)))
    else IsNotVouchedFor AnotherTerm

-- what comes of it whatever is found of its claim
abbrev pub outcome_known : ℕ → List CertificateBind → CoreDefinition → Claimed → Outcome
outcome_known devices known definition Unclaimed = IsNotVouchedFor NoClaim
outcome_known devices known definition (Misread line) = IsNotVouchedFor (BadLine line)
outcome_known devices known definition (Broken number) = IsNotVouchedFor (BadNode number)
outcome_known devices known definition (Proven proof) = outcome_proven devices known definition proof
