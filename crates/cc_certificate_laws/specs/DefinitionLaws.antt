-- The certificates of accepted definitions: what is written for a definition's canonical derivation is a certificate.
use Rattle.std.specs.Prelude.{◌≡◌, ℕ, ◌≤◌, List, length}
use Rattle.std.specs.List.{AllByRecursion, IsDistinct}
use Rattle.std.specs.Str.{bytes_eq}
use Rattle.cc_base.specs.Names.{IsName}
use Rattle.cc_core.specs.Terms.{Term, VariableTerm, LiteralTerm, FunctionTerm, TypeFunctionTerm, BoxTerm, Application}
use Rattle.cc_core.specs.Terms.{TypeApplication, Unboxing, Let, Primitive, Conditional, Repetition, Operation, Boundary}
use Rattle.cc_core.specs.Terms.{Leave}
use Rattle.cc_core.specs.Contexts.{Bind, TermEntry, TypeEntry, Context}
use Rattle.cc_core.specs.Occurrences.{HasNoHoleInTerm}
use Rattle.cc_core.specs.Derivations.{Derivation, Premises, Node, NoPremise, Premise, IsValidTyping}
use Rattle.cc_checking.specs.DerivationSizes.{nodes}
use Rattle.cc_checking.specs.Verdicts.{Definition, Accepted, IsAccepted, HasVerdict}
use Rattle.cc_checking_laws.specs.CheckingLaws.{Fits}
use Rattle.cc_checking_laws.specs.AcceptedDefinitions.{definition_context, accepted_derived}
use Rattle.cc_certificate_writing.specs.Certificates.{certificate_text}
use Rattle.cc_certificate_text.specs.Certificates.{Line, IsWritten, IsWrittenLiteral, claim_height, IsCertificate}
use Rattle.cc_certificate_text.specs.Heights.{shape_height, term_height}
use Rattle.cc_certificate_laws.specs.CertificateLines.{lines_of}

-- the literals of the term are those of the grammar
abbrev pub HasWrittenLiterals : Term → Type 0
HasWrittenLiterals (VariableTerm variable) = Unit {0}
HasWrittenLiterals (LiteralTerm literal) = IsWrittenLiteral literal
HasWrittenLiterals (FunctionTerm takes c body) = HasWrittenLiterals body
HasWrittenLiterals (TypeFunctionTerm bound body) = HasWrittenLiterals body
HasWrittenLiterals (BoxTerm content) = Unit {0}
HasWrittenLiterals (Application function argument) = Unit {0}
HasWrittenLiterals (TypeApplication function argument) = Unit {0}
HasWrittenLiterals (Unboxing set box) = Unit {0}
HasWrittenLiterals (Let note right body) = HasWrittenLiterals right × HasWrittenLiterals body
HasWrittenLiterals (Primitive operator left right) = Unit {0}
HasWrittenLiterals (Conditional note test positive negative) =
    HasWrittenLiterals positive × HasWrittenLiterals negative
HasWrittenLiterals (Repetition count function) = Unit {0}
HasWrittenLiterals (Operation operation receiver argument) = Unit {0}
HasWrittenLiterals (Boundary gives body) = HasWrittenLiterals body
HasWrittenLiterals (Leave gives c exit value) = Unit {0}

-- A term without holes that has a valid derivation can be written, where its literals can: no set and no type is
-- omitted that has to be there, and operations have the arguments that they take.
abbrev pub ValidTermsAreWhole : Type 0
ValidTermsAreWhole =
    (context : Context) (term : Term) (derivation : Derivation) → IsValidTyping context term derivation
    → HasNoHoleInTerm term → HasWrittenLiterals term → IsWritten term

abbrev mutual
  -- each claim of the derivation has a height that may be written
  pub IsLow : Derivation → Type 0
  IsLow (Node rule premises claim) = (claim_height claim ≤ 5000) × AreLow premises

  -- the same of premises
  pub AreLow : Premises → Type 0
  AreLow NoPremise = Unit {0}
  AreLow (Premise first rest) = IsLow first × AreLow rest

-- so has the type of the entry, or its bound
abbrev pub IsLowEntry : Bind → Type 0
IsLowEntry (TermEntry shape set) = shape_height shape ≤ 5000
IsLowEntry (TypeEntry bound) = shape_height bound ≤ 5000

-- The accepted definition is within the limits of certificates: the positions of its context have different names, its
-- literals are those of the grammar, heights are at most 5,000, and there are at most 100,000 nodes.
pub record IsWithinLimits (names : List (List ℕ)) (context : Context) (accepted : Accepted) : Type 0 where
  pub named : AllByRecursion IsName names
  pub apart : IsDistinct bytes_eq names
  pub each : length names ≡ length context
  pub low_entries : AllByRecursion IsLowEntry context
  pub literals : HasWrittenLiterals accepted.filled
  pub low_term : term_height accepted.filled ≤ 5000
  pub low_claims : IsLow (accepted_derived context accepted)
  pub few : nodes (accepted_derived context accepted) ≤ 100000

-- What is written for the canonical derivation of an accepted definition is a certificate, and its lines say what the
-- derivation does.
abbrev pub AcceptedDefinitionsHaveCertificates : Type 0
AcceptedDefinitionsHaveCertificates =
    (devices : ℕ) (globals : Context) (definition : Definition) (accepted : Accepted) (names : List (List ℕ))
    → Fits globals definition → HasVerdict devices globals definition (IsAccepted accepted)
    → IsWithinLimits names (definition_context globals definition accepted.signature) accepted
    → IsCertificate
    (certificate_text names (definition_context globals definition accepted.signature) accepted.filled
    (accepted_derived (definition_context globals definition accepted.signature) accepted))
    (lines_of names (definition_context globals definition accepted.signature) accepted.filled
    (accepted_derived (definition_context globals definition accepted.signature) accepted))

-- And these lines are what is read back from it.
abbrev pub CertificatesOfDefinitionsAreReadBack : Type 0
CertificatesOfDefinitionsAreReadBack =
    (devices : ℕ) (globals : Context) (definition : Definition) (accepted : Accepted) (names : List (List ℕ))
    (lines : List Line)
    → Fits globals definition → HasVerdict devices globals definition (IsAccepted accepted)
    → IsWithinLimits names (definition_context globals definition accepted.signature) accepted
    → IsCertificate
    (certificate_text names (definition_context globals definition accepted.signature) accepted.filled
    (accepted_derived (definition_context globals definition accepted.signature) accepted)) lines
    → lines
    ≡ lines_of names (definition_context globals definition accepted.signature) accepted.filled
    (accepted_derived (definition_context globals definition accepted.signature) accepted)
