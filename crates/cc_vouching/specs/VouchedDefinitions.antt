-- When a definition of a module is vouched for by its certificate, and else why not. The certificate is taken as it is, with
-- the sets and the types that are written in it: nothing is inferred.
use Rattle.std.specs.Prelude.{◌≡◌, ℕ, suc, Bool, true, false, ◌&&◌, List, [], ◌∷◌, ◌++◌, length, map, Option, Some, None}
use Rattle.std.specs.Prelude.{Result, Ok, Err, if◌then◌else◌}
use Rattle.std.specs.Option.{option_map}
use Rattle.std.specs.Str.{bytes_eq}
use Rattle.cc_base.specs.declared.code.Code.{Code}
use Rattle.cc_base.specs.declared.code.Code.TheVariants.{E14, E15, E17}
use Rattle.cc_base.specs.declared.device.DeviceDecl.{DeviceDecl}
use Rattle.cc_base.specs.declared.place.Place.{Place}
use Rattle.cc_capture.specs.declared.var.Elem.TheVariants.{Cap}
use Rattle.cc_core.specs.Equality.{same_shape, same_type}
use Rattle.cc_core.specs.Places.{spots}
use Rattle.cc_core.specs.Programs.{Definition}
use Rattle.cc_core.specs.Shapes.{BaseShape, CapturingType, capturing}
use Rattle.cc_core.specs.Substitution.{single}
use Rattle.cc_core.specs.Terms.{Note, Absent, Written, Own, Term}
use Rattle.cc_filled.specs.FilledTerms.{IsFilledAs}
use Rattle.cc_grammar.specs.Syntax.{ImportSyntax}
use Rattle.cc_checking.specs.Verdicts.{signature_of}
use Rattle.cc_mnf.specs.ElaboratedModules.{CoreDefinition}
use Rattle.cc_device.specs.Declarations.{declared_base}
use Rattle.cc_verdicts.specs.ModuleVerdicts.{Finding, FoundDefinition, Refusal}
use Rattle.cc_certificate_text.specs.Certificates.{CertificateNode, IsCertificate, IsBadLine}
use Rattle.cc_certificate_judging.specs.Answers.{IsBroken}
use Rattle.cc_certificate_judging.specs.CertificateParts.{CertificateBind, parts_lines, bound_context}
use Rattle.cc_certificate_judging.specs.Judging.{IsValidAt, IsJudged}
use Rattle.cc_vouching.specs.Submissions.{Claim}

-- What a valid certificate says: what it assumes, in order, its term, and the type that it concludes of that.
pub record Proof : Type 0 where
  pub binds : List CertificateBind
  pub term : Term
  pub type : CapturingType

-- The bytes are a valid certificate, which says this.
pub record IsProofOf (bytes : List ℕ) (proof : Proof) : Type 0 where
  pub nodes : List CertificateNode
  pub certificate : IsCertificate bytes (parts_lines proof.binds proof.term nodes)
  pub judged : IsJudged (bound_context proof.binds) proof.term nodes (IsValidAt proof.type)

-- Why a definition is not vouched for: there is no claim of its name; the bytes of the claim are no certificate; they are
-- one that is not valid; its term is not the right side of the definition with its omitted sets filled in; one of its
-- binds is not what stands there; or its type is refused.
pub data Reason : Type 0 where
  NoClaim : Reason
  BadLine : (line : ℕ) → Reason
  BadNode : (number : ℕ) → Reason
  AnotherTerm : Reason
  AnotherBind : (number : ℕ) → Reason
  Refused : (refusal : Refusal) → Reason

-- a definition is vouched for, as one of a program, or is not
pub data Outcome : Type 0 where
  IsVouchedFor : (definition : Definition) → Outcome
  IsNotVouchedFor : (reason : Reason) → Outcome

-- What stands before a definition: the devices, the imports of its module with what is found for them, and the definitions
-- before it, in order, as they were vouched for.
pub record Surroundings : Type 0 where
  pub devices : List DeviceDecl
  pub imports : List ImportSyntax
  pub findings : List Finding
  pub before : List Definition

-- the certificate of the first claim of the name, if there is one
abbrev pub claim_named : List ℕ → List Claim → Option (List ℕ)
claim_named name [] = None
claim_named name (first ∷ rest) =
    if bytes_eq first.definition name then Some first.certificate else claim_named name rest

-- what is known of a device: its shape, and that it captures the universal capability
abbrev pub device_bind : DeviceDecl → CertificateBind
device_bind device = (device.name, capturing (BaseShape (declared_base device.kind)) (single Cap))

-- of an import, the signature that is found, if one is
abbrev pub import_bind : ImportSyntax → Finding → List CertificateBind
import_bind one (FoundDefinition signature) = (one.name, signature) ∷ []
import_bind one _ = []

abbrev pub import_binds : List ImportSyntax → List Finding → List CertificateBind
import_binds [] findings = []
import_binds (first ∷ rest) [] = []
import_binds (first ∷ rest) (finding ∷ findings) = import_bind first finding ++ import_binds rest findings

-- of a definition, the signature that is vouched for
abbrev pub definition_bind : Definition → CertificateBind
definition_bind definition = (definition.name, definition.signature)

-- of a recursive definition itself, its signature, if it has one
abbrev pub own_bind : CoreDefinition → Option CapturingType → List CertificateBind
own_bind definition None = []
own_bind definition (Some signature) = if definition.recursive then (definition.name, signature) ∷ [] else []

-- The binds of a definition of the signature: the devices, the imports, the definitions before it, and itself where it is
-- recursive.
abbrev pub known_binds : Surroundings → CoreDefinition → Option CapturingType → List CertificateBind
known_binds it definition signature =
    map device_bind it.devices ++ import_binds it.imports it.findings ++ map definition_bind it.before
    ++ own_bind definition signature

-- whether two binds are of one name and of one type
abbrev pub same_bind : CertificateBind → CertificateBind → Bool
same_bind one other = bytes_eq one.0 other.0 && same_type one.1 other.1

-- The number, from 1 on, of the first place where the one list has another bind than the other, or where one of them has
-- none; there is no such place where they are the same.
abbrev pub first_difference : List CertificateBind → List CertificateBind → Option ℕ
first_difference [] [] = None
first_difference (one ∷ ones) (other ∷ others) =
    if same_bind one other then option_map (λ number. suc number) (first_difference ones others) else Some 1
first_difference _ _ = Some 1

-- The type that others see of what has the type by the certificate: imports and definitions are avoided, as in a
-- definition that is checked.
abbrev pub signature_by : List DeviceDecl → Proof → CapturingType → Option CapturingType
signature_by devices proof type = signature_of (length devices) (bound_context proof.binds) type

-- the type that is written for a definition, where the certificate proves this one: with its set where the written one
-- is omitted, and this one where nothing is written
abbrev pub written_type : Note → CapturingType → CapturingType
written_type Absent type = type
written_type (Written shape set) type = capturing shape set
written_type (Own shape) type = capturing shape type.set

-- the code for a signature that is not the one of what is written: the shapes differ, or the sets alone
abbrev pub code_of_difference : CapturingType → CapturingType → Code
code_of_difference written signature = if same_shape written.shape signature.shape then E15 else E14

-- the refusal with the code at the place
abbrev pub refused_at : Code → Place → Result CapturingType Refusal
refused_at code at = Err (record { code = code; at = at })

-- The signature that is vouched for, where the type that the certificate proves has this one and the type that is written
-- has that one: there are both, and they are the same. Else it is refused at the name, or where the right side starts.
abbrev pub agreed_signature : CoreDefinition → Option CapturingType → Option CapturingType → Result CapturingType Refusal
agreed_signature definition None written = refused_at E17 definition.name_at
agreed_signature definition (Some signature) None = refused_at E17 definition.name_at
agreed_signature definition (Some signature) (Some written) =
    if same_type written signature
    then Ok signature
    else refused_at (code_of_difference written signature) (spots definition.places).at

-- the signature of the definition by the certificate, or why there is none
abbrev pub vouched_signature : List DeviceDecl → CoreDefinition → Proof → Result CapturingType Refusal
vouched_signature devices definition proof =
    agreed_signature definition (signature_by devices proof proof.type)
    (signature_by devices proof (written_type definition.note proof.type))

-- the definition as one of a program: its value is the term of the certificate
abbrev pub vouched_definition : CoreDefinition → Proof → CapturingType → Definition
vouched_definition definition proof signature =
    record { name = definition.name; value = proof.term; signature = signature; is_recursive = definition.recursive }

-- The certificate is about the definition where it stands: its term is the right side with its omitted sets filled in, and
-- it assumes what is known there and nothing else.
pub record IsAbout (it : Surroundings) (definition : CoreDefinition) (proof : Proof) : Type 0 where
  pub filled : IsFilledAs definition.right proof.term
  pub known :
      first_difference proof.binds (known_binds it definition (signature_by it.devices proof proof.type)) ≡ None

-- What comes of a definition where it stands, with the claims of its module.
pub data HasOutcome (it : Surroundings) (definition : CoreDefinition) (claims : List Claim) : Outcome → Type 0 where
  has_no_claim : claim_named definition.name claims ≡ None → HasOutcome it definition claims (IsNotVouchedFor NoClaim)
  has_bad_line : {bytes : List ℕ} {line : ℕ} → claim_named definition.name claims ≡ Some bytes → IsBadLine bytes line
      → HasOutcome it definition claims (IsNotVouchedFor (BadLine line))
  has_bad_node : {bytes : List ℕ} {number : ℕ} → claim_named definition.name claims ≡ Some bytes
      → IsBroken bytes number → HasOutcome it definition claims (IsNotVouchedFor (BadNode number))
  has_another_term : {bytes : List ℕ} {proof : Proof} → claim_named definition.name claims ≡ Some bytes
      → IsProofOf bytes proof → (IsFilledAs definition.right proof.term → ⊥)
      → HasOutcome it definition claims (IsNotVouchedFor AnotherTerm)
  has_another_bind : {bytes : List ℕ} {proof : Proof} {number : ℕ} → claim_named definition.name claims ≡ Some bytes
      → IsProofOf bytes proof → IsFilledAs definition.right proof.term
      → first_difference proof.binds (known_binds it definition (signature_by it.devices proof proof.type))
      ≡ Some number
      → HasOutcome it definition claims (IsNotVouchedFor (AnotherBind number))
  is_refused : {bytes : List ℕ} {proof : Proof} {refusal : Refusal} → claim_named definition.name claims ≡ Some bytes
      → IsProofOf bytes proof → IsAbout it definition proof
      → vouched_signature it.devices definition proof ≡ Err refusal
      → HasOutcome it definition claims (IsNotVouchedFor (Refused refusal))
  is_vouched_for : {bytes : List ℕ} {proof : Proof} {signature : CapturingType}
      → claim_named definition.name claims ≡ Some bytes → IsProofOf bytes proof → IsAbout it definition proof
      → vouched_signature it.devices definition proof ≡ Ok signature
      → HasOutcome it definition claims (IsVouchedFor (vouched_definition definition proof signature))
