-- The signature of an accepted definition is that of what is written for it.
use Rattle.std.specs.Prelude.{◌≡◌, ℕ, ◌≤◌, length, Some}
use Rattle.cc_core.specs.Contexts.{Context}
use Rattle.cc_core.specs.Occurrences.{MeetsInNote, MeetsInType, positions_below, without_holes}
use Rattle.cc_core.specs.WellFormed.{IsWellFormedNote}
use Rattle.cc_checking.specs.Verdicts.{Definition, Accepted, IsAccepted, HasVerdict, signature_of}
use Rattle.cc_checking_laws.specs.AcceptedDefinitions.{definition_context}
use Rattle.cc_vouching.specs.VouchedDefinitions.{written_type}

-- In the context of its right side the type that is written for an accepted definition, with the set of its signature
-- where its own is omitted, has that signature.
abbrev pub SignaturesAreOfWhatIsWritten : Type 0
SignaturesAreOfWhatIsWritten =
    (devices : ℕ) (globals : Context) (definition : Definition) (accepted : Accepted)
    → devices ≤ length globals → IsWellFormedNote globals definition.note
    → MeetsInNote without_holes 0 definition.note → MeetsInType (positions_below devices) 0 accepted.signature
    → HasVerdict devices globals definition (IsAccepted accepted)
    → signature_of devices (definition_context globals definition accepted.signature)
    (written_type definition.note accepted.signature)
    ≡ Some accepted.signature
