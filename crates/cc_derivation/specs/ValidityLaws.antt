-- The laws of broken nodes.
use Rattle.std.specs.Prelude.{◌≡◌, ◌↔◌, ℕ, ◌<◌, ◌≤◌, List, [], ◌∷◌}
use Rattle.cc_core.specs.Terms.{Term}
use Rattle.cc_core.specs.Contexts.{Context}
use Rattle.cc_core.specs.Derivations.{Claim, SetBelow, ShapeBelow, TypeBelow, OfType, Derivation, conclusion}
use Rattle.cc_core.specs.Derivations.{IsValidComparison, IsValidTyping}
use Rattle.cc_derivation.specs.Numbers.{own_number}
use Rattle.cc_derivation.specs.Rows.{Place, SetsBelow, ShapesBelow, TypesBelow, TypeOf}
use Rattle.cc_derivation.specs.Broken.{broken}

-- the claim is that a set is below another
abbrev pub IsOfSets : Claim → Type 0
IsOfSets (SetBelow left right) = Unit {0}
IsOfSets _ = ⊥

-- that a shape is
abbrev pub IsOfShapes : Claim → Type 0
IsOfShapes (ShapeBelow left right) = Unit {0}
IsOfShapes _ = ⊥

-- that a type is
abbrev pub IsOfTypes : Claim → Type 0
IsOfTypes (TypeBelow left right) = Unit {0}
IsOfTypes _ = ⊥

-- No node breaks its rule exactly where the derivation is valid for the term. The numbers may begin anywhere.
abbrev pub ValidTypingsHaveNoBrokenNode : Type 0
ValidTypingsHaveNoBrokenNode =
    (before : ℕ) (context : Context) (term : Term) (derivation : Derivation)
    → (broken before (TypeOf context term) derivation ≡ []) ↔ IsValidTyping context term derivation

-- the same of a comparison of sets
abbrev pub ValidSetComparisonsHaveNoBrokenNode : Type 0
ValidSetComparisonsHaveNoBrokenNode =
    (before : ℕ) (context : Context) (derivation : Derivation)
    → (broken before (SetsBelow context) derivation ≡ [])
    ↔ (IsValidComparison context derivation × IsOfSets (conclusion derivation))

-- of shapes
abbrev pub ValidShapeComparisonsHaveNoBrokenNode : Type 0
ValidShapeComparisonsHaveNoBrokenNode =
    (before : ℕ) (context : Context) (derivation : Derivation)
    → (broken before (ShapesBelow context) derivation ≡ [])
    ↔ (IsValidComparison context derivation × IsOfShapes (conclusion derivation))

-- and of types
abbrev pub ValidTypeComparisonsHaveNoBrokenNode : Type 0
ValidTypeComparisonsHaveNoBrokenNode =
    (before : ℕ) (context : Context) (derivation : Derivation)
    → (broken before (TypesBelow context) derivation ≡ [])
    ↔ (IsValidComparison context derivation × IsOfTypes (conclusion derivation))

-- the numbers rise, from above the first limit up to at most the second one
abbrev pub RiseWithin : ℕ → List ℕ → ℕ → Type 0
RiseWithin low [] high = low ≤ high
RiseWithin low (number ∷ numbers) high = (low < number) × RiseWithin number numbers high

-- the numbers of the broken nodes rise, and are numbers of nodes of the derivation, so the first one is the least
abbrev pub BrokenNumbersRise : Type 0
BrokenNumbersRise =
    (before : ℕ) (place : Place) (derivation : Derivation)
    → RiseWithin before (broken before place derivation) (own_number before derivation)
