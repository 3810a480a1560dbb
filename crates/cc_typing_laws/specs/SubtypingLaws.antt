-- The laws of subtyping and of the comparison of shapes and types.
use Rattle.std.specs.Prelude.{◌≡◌, ◌↔◌, ◌⊎◌, ℕ, ◌≤◌, List}
use Rattle.cc_core.specs.Shapes.{Shape, CapturingType}
use Rattle.cc_core.specs.Contexts.{Context}
use Rattle.cc_core.specs.WellFormed.{IsWellFormedShape, IsWellFormedType, IsWellFormedContext}
use Rattle.cc_core.specs.Subtyping.{Subtypes, SubtypesType}
use Rattle.cc_checking.specs.Comparison.{Demand, Unfinished, comparison, HasDemands, IsMismatch, TypesHaveDemands}
use Rattle.cc_checking.specs.Comparison.{IsTypeMismatch, AllHold}
use Rattle.cc_checking.specs.Weights.{IsEnough, enough_steps}

-- A shape is below another exactly where their comparison has demands, and all of them hold.
abbrev pub SubtypingIsComparison : Type 0
SubtypingIsComparison =
    (context : Context) (left right : Shape)
    → Subtypes context left right ↔ ((demands : List Demand) × HasDemands context left right demands × AllHold demands)

-- the same of types
abbrev pub SubtypingOfTypesIsComparison : Type 0
SubtypingOfTypesIsComparison =
    (context : Context) (left right : CapturingType)
    → SubtypesType context left right
    ↔ ((demands : List Demand) × TypesHaveDemands context left right demands × AllHold demands)

-- once a comparison is at its end, it has the same answer with more steps
abbrev pub MoreStepsKeepTheAnswer : Type 0
MoreStepsKeepTheAnswer =
    (context : Context) (left right : Shape) (few many : ℕ) → few ≤ many
    → (comparison few context left right ≡ Unfinished → ⊥)
    → comparison many context left right ≡ comparison few context left right

-- no two lists of demands
abbrev pub DemandsAreUnique : Type 0
DemandsAreUnique =
    (context : Context) (left right : Shape) (demands demands' : List Demand)
    → HasDemands context left right demands → HasDemands context left right demands' → demands ≡ demands'

-- and not demands and a mismatch
abbrev pub DemandsExcludeMismatch : Type 0
DemandsExcludeMismatch =
    (context : Context) (left right : Shape) (demands : List Demand) → HasDemands context left right demands
    → IsMismatch context left right → ⊥

-- what does not match is not below
abbrev pub MismatchIsNoSubtype : Type 0
MismatchIsNoSubtype =
    (context : Context) (left right : Shape) → IsMismatch context left right → Subtypes context left right → ⊥

-- On what is well formed a comparison has demands or is a mismatch.
abbrev pub ComparisonEnds : Type 0
ComparisonEnds =
    (context : Context) (left right : Shape)
    → IsWellFormedContext context → IsWellFormedShape context left → IsWellFormedShape context right
    → ((demands : List Demand) × HasDemands context left right demands) ⊎ IsMismatch context left right

-- and that in no more steps than the two shapes weigh, and one
abbrev pub WeightsAreEnough : Type 0
WeightsAreEnough =
    (context : Context) (left right : Shape)
    → IsWellFormedContext context → IsWellFormedShape context left → IsWellFormedShape context right
    → IsEnough (enough_steps context left right) context left right

-- the same of types
abbrev pub ComparisonOfTypesEnds : Type 0
ComparisonOfTypesEnds =
    (context : Context) (left right : CapturingType)
    → IsWellFormedContext context → IsWellFormedType context left → IsWellFormedType context right
    → ((demands : List Demand) × TypesHaveDemands context left right demands) ⊎ IsTypeMismatch context left right
