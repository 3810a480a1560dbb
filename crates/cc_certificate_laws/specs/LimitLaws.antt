-- Accepted definitions stay within the limits of certificates: of what is low no higher claim comes.
use Rattle.std.specs.Prelude.{◌≡◌, ℕ, ◌≤◌}
use Rattle.std.specs.List.{AllByRecursion}
use Rattle.cc_core.specs.Contexts.{Context}
use Rattle.cc_checking.specs.Verdicts.{Definition, Accepted, IsAccepted, HasVerdict}
use Rattle.cc_certificate_text.specs.Heights.{shape_height, note_height, term_height}
use Rattle.cc_checking_laws.specs.AcceptedDefinitions.{definition_context, accepted_derived}
use Rattle.cc_certificate_laws.specs.DefinitionLaws.{HasWrittenLiterals, IsLow, IsLowEntry}

-- what is written for the definition's type and its right side are of heights that may be written
pub record IsLowDefinition (definition : Definition) : Type 0 where
  pub note : note_height definition.note ≤ 5000
  pub right : term_height definition.right ≤ 5000

-- so are the types in the context, the accepted right side and each claim of its canonical derivation
pub record IsLowAccepted (context : Context) (accepted : Accepted) : Type 0 where
  pub entries : AllByRecursion IsLowEntry context
  pub term : term_height accepted.filled ≤ 5000
  pub claims : IsLow (accepted_derived context accepted)

-- The canonical derivation of an accepted low definition has no claim that is too high, and its context and its filled
-- right side are low.
abbrev pub AcceptedDefinitionsAreLow : Type 0
AcceptedDefinitionsAreLow =
    (devices : ℕ) (globals : Context) (definition : Definition) (accepted : Accepted)
    → AllByRecursion IsLowEntry globals → IsLowDefinition definition
    → HasVerdict devices globals definition (IsAccepted accepted)
    → IsLowAccepted (definition_context globals definition accepted.signature) accepted

-- The filled right side has the height of the right side, and the type that it was compared with the height of what is
-- written.
abbrev pub HeightsAreKept : Type 0
HeightsAreKept =
    (devices : ℕ) (globals : Context) (definition : Definition) (accepted : Accepted)
    → HasVerdict devices globals definition (IsAccepted accepted)
    → (term_height accepted.filled ≡ term_height definition.right)
    × (note_height accepted.note ≡ note_height definition.note)

-- Its literals are those of the grammar where the right side's are.
abbrev pub LiteralsAreKept : Type 0
LiteralsAreKept =
    (devices : ℕ) (globals : Context) (definition : Definition) (accepted : Accepted)
    → HasVerdict devices globals definition (IsAccepted accepted)
    → HasWrittenLiterals definition.right → HasWrittenLiterals accepted.filled

-- The type that others see is no higher than the greatest size of a type that is inferred, if what is written is not.
abbrev pub SignaturesAreLow : Type 0
SignaturesAreLow =
    (devices : ℕ) (globals : Context) (definition : Definition) (accepted : Accepted)
    → HasVerdict devices globals definition (IsAccepted accepted)
    → note_height definition.note ≤ 4096 → shape_height accepted.signature.shape ≤ 4096
