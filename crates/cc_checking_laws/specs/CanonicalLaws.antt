-- The laws of canonical derivations.
use Rattle.std.specs.Prelude.{◌≡◌, ℕ}
use Rattle.cc_capture.specs.Sets.{Set}
use Rattle.cc_core.specs.Shapes.{Shape, CapturingType}
use Rattle.cc_core.specs.Terms.{Note, Term}
use Rattle.cc_core.specs.Subtyping.{Subtypes}
use Rattle.cc_core.specs.Contexts.{Context}
use Rattle.cc_core.specs.WellFormed.{IsWellFormedContext, IsWellFormedSet, IsWellFormedShape}
use Rattle.cc_core.specs.Subcapturing.{SubcapturesSet}
use Rattle.cc_core.specs.Derivations.{OfType, IsValidComparison, IsValidTyping, Concludes, ConcludesSets}
use Rattle.cc_core.specs.Derivations.{ConcludesShapes}
use Rattle.cc_checking.specs.CanonicalDerivations.{set_derived, canonical_shapes}
use Rattle.cc_checking.specs.CanonicalDerivations.{definition_derived}
use Rattle.cc_checking.specs.DerivationSizes.{nodes, canonical_shape_nodes, definition_counted}
use Rattle.cc_checking.specs.Verdicts.{Definition, Accepted, IsAccepted, HasVerdict}
use Rattle.cc_checking_laws.specs.CheckingLaws.{Fits}
use Rattle.cc_checking_laws.specs.AcceptedDefinitions.{definition_context, right_side_derived, accepted_derived}

-- where a set is below another, the canonical derivation of that is valid and concludes it
abbrev pub CanonicalDerivationsOfSetsAreValid : Type 0
CanonicalDerivationsOfSetsAreValid =
    (context : Context) (left right : Set) → IsWellFormedContext context → IsWellFormedSet context left
    → SubcapturesSet context left right
    → IsValidComparison context (set_derived context left right)
    × ConcludesSets (set_derived context left right) left right

-- the same of shapes
abbrev pub CanonicalDerivationsOfShapesAreValid : Type 0
CanonicalDerivationsOfShapesAreValid =
    (context : Context) (left right : Shape) → IsWellFormedContext context → IsWellFormedShape context left
    → IsWellFormedShape context right → Subtypes context left right
    → IsValidComparison context (canonical_shapes context left right)
    × ConcludesShapes (canonical_shapes context left right) left right

-- The canonical derivation of an accepted definition is valid for its filled right side in the definition's context,
-- and concludes its type; and with its last node the type that others see.
abbrev pub CanonicalDerivationsOfDefinitionsAreValid : Type 0
CanonicalDerivationsOfDefinitionsAreValid =
    (devices : ℕ) (globals : Context) (definition : Definition) (accepted : Accepted) → Fits globals definition
    → HasVerdict devices globals definition (IsAccepted accepted)
    → IsValidTyping (definition_context globals definition accepted.signature) accepted.filled
    (right_side_derived (definition_context globals definition accepted.signature) accepted)
    × Concludes (right_side_derived (definition_context globals definition accepted.signature) accepted)
    (OfType accepted.type)
    × IsValidTyping (definition_context globals definition accepted.signature) accepted.filled
    (accepted_derived (definition_context globals definition accepted.signature) accepted)
    × Concludes (accepted_derived (definition_context globals definition accepted.signature) accepted)
    (OfType accepted.signature)

-- the count of a canonical derivation's nodes is right, for any input
abbrev pub CanonicalDerivationsAreCounted : Type 0
CanonicalDerivationsAreCounted =
    (context : Context) (note : Note) (filled : Term) (signature : CapturingType)
    → (definition_counted canonical_shape_nodes context note filled signature).nodes
    ≡ nodes (definition_derived canonical_shapes context note filled signature)
