-- The laws of derivations: they are the judgements.
use Rattle.std.specs.Prelude.{◌↔◌}
use Rattle.cc_capture.specs.Sets.{Set}
use Rattle.cc_core.specs.Shapes.{Shape, CapturingType, capturing}
use Rattle.cc_core.specs.Terms.{Term}
use Rattle.cc_core.specs.Contexts.{Context}
use Rattle.cc_core.specs.WellFormed.{IsWellFormedContext, IsWellFormedTerm, IsWellFormedType}
use Rattle.cc_core.specs.Subcapturing.{SubcapturesSet}
use Rattle.cc_core.specs.Subtyping.{Subtypes, SubtypesType}
use Rattle.cc_core.specs.Typing.{HasTyping, HasType}
use Rattle.cc_core.specs.Derivations.{Claim, SetBelow, ShapeBelow, TypeBelow, OfType, Derivation, Concludes}
use Rattle.cc_core.specs.Derivations.{IsValidComparison, IsValidTyping}

-- a valid derivation concludes in the context that one side is below the other
abbrev pub HasComparison : Context → Claim → Type 0
HasComparison context claim =
    (derivation : Derivation) × IsValidComparison context derivation × Concludes derivation claim

-- a valid derivation of the term concludes in the context that the term has the type
abbrev pub HasDerivation : Context → Term → CapturingType → Type 0
HasDerivation context term type =
    (derivation : Derivation) × IsValidTyping context term derivation × Concludes derivation (OfType type)

-- a set is below another exactly where a valid derivation concludes it
abbrev pub SubcapturingHasDerivations : Type 0
SubcapturingHasDerivations =
    (context : Context) (left right : Set)
    → SubcapturesSet context left right ↔ HasComparison context (SetBelow left right)

-- the same of shapes
abbrev pub SubtypingHasDerivations : Type 0
SubtypingHasDerivations =
    (context : Context) (left right : Shape)
    → Subtypes context left right ↔ HasComparison context (ShapeBelow left right)

-- the same of types
abbrev pub TypeSubtypingHasDerivations : Type 0
TypeSubtypingHasDerivations =
    (context : Context) (left right : CapturingType)
    → SubtypesType context left right ↔ HasComparison context (TypeBelow left right)

-- the rules give a term a type exactly where a valid derivation of the term concludes it
abbrev pub TypingHasDerivations : Type 0
TypingHasDerivations =
    (context : Context) (term : Term) (shape : Shape) (set : Set)
    → HasTyping context term shape set ↔ HasDerivation context term (capturing shape set)

-- A term has a type exactly where a valid derivation of the term concludes it, and context, term and type are well
-- formed.
abbrev pub TypesHaveDerivations : Type 0
TypesHaveDerivations =
    (context : Context) (term : Term) (type : CapturingType)
    → HasType context term type
    ↔ (IsWellFormedContext context × IsWellFormedTerm context term × IsWellFormedType context type
    × HasDerivation context term type)
