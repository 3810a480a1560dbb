-- Canonical derivations with more steps than are enough.
use Rattle.std.specs.Prelude.{◌≡◌, ℕ, ◌≤◌}
use Rattle.cc_core.specs.Contexts.{Context}
use Rattle.cc_checking.specs.CanonicalDerivations.{shape_derived, definition_derived}
use Rattle.cc_checking.specs.Verdicts.{Definition, Accepted, IsAccepted, HasVerdict}
use Rattle.cc_checking_laws.specs.CheckingLaws.{Fits}
use Rattle.cc_checking_laws.specs.AcceptedDefinitions.{definition_context, accepted_derived}

-- The canonical derivation of an accepted definition is the one that is made with any number of steps for each comparison
-- of shapes, where the number is great enough. So it need not be known how many steps the weights allow.
abbrev pub DerivationsOfDefinitionsStay : Type 0
DerivationsOfDefinitionsStay =
    (devices : ℕ) (globals : Context) (definition : Definition) (accepted : Accepted) → Fits globals definition
    → HasVerdict devices globals definition (IsAccepted accepted)
    → (steps : ℕ) × ((more : ℕ) → steps ≤ more
    → definition_derived (shape_derived more) (definition_context globals definition accepted.signature) accepted.note
    accepted.filled accepted.signature
    ≡ accepted_derived (definition_context globals definition accepted.signature) accepted)
