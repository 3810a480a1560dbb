-- What values of the program stand for: what is found of a claim, and what comes of a definition.
use Rattle.std.specs.Prelude.{◌≡◌, ℕ, List, [], ◌∷◌, ◌++◌, map, Option, Some, None, Result, Ok, Err, Vec}
use Rattle.std.specs.declared.alloc.Global.{Global}
use Rattle.cc_base.specs.declared.code.Diag.{Diag}
use Rattle.cc_core.specs.Programs.{Definition}
use Rattle.cc_core.specs.Shapes.{CapturingType}
use Rattle.cc_core.specs.TermViews.{type_of, term_of}
use Rattle.cc_core.specs.declared.types.Ty.{Ty}
use Rattle.cc_verdicts.specs.ModuleVerdicts.{Refusal}
use Rattle.cc_certificate_reading.specs.declared.certificate.Cert.{Cert}
use Rattle.cc_vouching.specs.ClaimedOutcomes.{Claimed, Misread, Broken, Proven}
use Rattle.cc_vouching.specs.VouchedDefinitions.{Proof, Reason, Outcome, IsVouchedFor, IsNotVouchedFor}
use Rattle.cc_vouching.specs.VouchedDefinitions as plain
use Rattle.cc_mnf.specs.ElaboratedModules.{CoreDefinition}
use Rattle.cc_vouch.specs.BindViews.{binds_of}
use Rattle.cc_vouch.specs.KnownOutcomes.{later_bind}
use Rattle.cc_vouch.specs.declared.claims.Found.{Found}
use Rattle.cc_vouch.specs.declared.claims.Found.TheVariants as found
use Rattle.cc_vouch.specs.declared.definitions.Vouched.{Vouched}
use Rattle.cc_vouch.specs.declared.definitions.Reason.{Reason as DeclaredReason}
use Rattle.cc_vouch.specs.declared.definitions.Reason.TheVariants as reasons
use Rattle.cc_vouch.specs.declared.definitions.Outcome.{Outcome as DeclaredOutcome}
use Rattle.cc_vouch.specs.declared.definitions.Outcome.TheVariants as outcomes

-- what a valid certificate of the type says
abbrev pub proof_of : Cert → Ty → Proof
proof_of cert type =
    record { binds = binds_of cert.binds.items; term = term_of cert.term.value; type = type_of type }

-- what is found of bytes
abbrev pub claimed_of : Found → Claimed
claimed_of (found.Misread line) = Misread line
claimed_of (found.Broken number) = Broken number
claimed_of (found.Proven cert type) = Proven (proof_of cert type)

-- a refusal
abbrev pub refusal_of : Diag → Refusal
refusal_of diag = record { code = diag.code; at = diag.place }

-- a signature, or its refusal
abbrev pub agreed_of : Result Ty Diag → Result CapturingType Refusal
agreed_of (Ok type) = Ok (type_of type)
agreed_of (Err diag) = Err (refusal_of diag)

-- the definition
abbrev pub definition_of : Vouched → Definition
definition_of it =
    record { name = it.name; value = term_of it.value.value; signature = type_of it.sig; is_recursive = it.recursive }

-- the reason
abbrev pub reason_of : DeclaredReason → Reason
reason_of reasons.NoClaim = plain.NoClaim
reason_of (reasons.BadLine line) = plain.BadLine line
reason_of (reasons.BadNode number) = plain.BadNode number
reason_of reasons.AnotherTerm = plain.AnotherTerm
reason_of (reasons.AnotherBind number) = plain.AnotherBind number
reason_of (reasons.Refused diag) = plain.Refused (refusal_of diag)

-- the outcome
abbrev pub outcome_of : DeclaredOutcome → Outcome
outcome_of (outcomes.VouchedFor it) = IsVouchedFor (definition_of it)
outcome_of (outcomes.NotVouchedFor reason) = IsNotVouchedFor (reason_of reason)

-- What is known grows by a definition that is vouched for; of one that is not, nothing is said.
abbrev pub Grows : List (List ℕ × Ty) → DeclaredOutcome → List (List ℕ × Ty) → Type 0
Grows old (outcomes.VouchedFor it) new = binds_of new ≡ binds_of old ++ (it.name, type_of it.sig) ∷ []
Grows old (outcomes.NotVouchedFor reason) new = Unit {0}

-- The same where a recursive one is known before.
abbrev pub GrowsLater : CoreDefinition → List (List ℕ × Ty) → DeclaredOutcome → List (List ℕ × Ty) → Type 0
GrowsLater definition old (outcomes.VouchedFor it) new =
    binds_of new ≡ binds_of old ++ later_bind definition (type_of it.sig)
GrowsLater definition old (outcomes.NotVouchedFor reason) new = Unit {0}
