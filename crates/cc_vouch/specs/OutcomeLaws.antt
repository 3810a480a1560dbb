-- What the code answers of a definition is what comes of it by the definitions.
use Rattle.std.specs.Prelude.{List, ◌++◌, length, map}
use Rattle.cc_certificate_judging.specs.CertificateParts.{CertificateBind}
use Rattle.cc_mnf.specs.ElaboratedModules.{CoreDefinition}
use Rattle.cc_vouching.specs.ClaimedOutcomes.{Claimed, IsClaimedAs}
use Rattle.cc_vouching.specs.Submissions.{Claim}
use Rattle.cc_vouching.specs.VouchedDefinitions.{Surroundings, claim_named, device_bind, import_binds, definition_bind, HasOutcome}
use Rattle.cc_vouch.specs.KnownOutcomes.{outcome_known}

-- the binds of what stands before a definition
abbrev pub standing_binds : Surroundings → List CertificateBind
standing_binds it =
    map device_bind it.devices ++ import_binds it.imports it.findings ++ map definition_bind it.before

-- Where this is found of the claim, and these binds are known, that comes of the definition.
abbrev pub KnownOutcomesAreThem : Type 0
KnownOutcomesAreThem =
    (it : Surroundings) (definition : CoreDefinition) (claims : List Claim) (claimed : Claimed)
    → IsClaimedAs (claim_named definition.name claims) claimed
    → HasOutcome it definition claims
    (outcome_known (length it.devices) (standing_binds it) definition claimed)
