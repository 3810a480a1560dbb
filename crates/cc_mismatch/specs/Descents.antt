-- The first parts of two shapes that do not match, by going down from parts to parts inside them.
use Rattle.std.specs.Prelude.{◌≡◌, ℕ, suc, Bool, true, false, List, Option, Some, None}
use Rattle.cc_core.specs.WellFormed.{IsWellFormedContext, IsWellFormedShape}
use Rattle.cc_checking.specs.Comparison.{Demand, Comparison, Mismatch, Matches, comparison}
use Rattle.cc_reasons.specs.Mismatches.{Pair, mismatch}

-- the context and the two shapes are well formed
abbrev pub IsWellFormedPair : Pair → Type 0
IsWellFormedPair parts =
    IsWellFormedContext parts.context × IsWellFormedShape parts.context parts.found
    × IsWellFormedShape parts.context parts.wanted

-- the comparison of the two in so many steps
abbrev pub pair_compared : ℕ → Pair → Comparison
pair_compared steps parts = comparison steps parts.context parts.found parts.wanted

-- the first parts of the two that do not match, in a comparison of so many steps
abbrev pub first_parts : ℕ → Pair → Option Pair
first_parts steps parts = mismatch steps parts.context parts.found parts.wanted

-- Where two that do not match lead to: to parts inside them, which do not match in one step fewer, and of which the first
-- parts are those of the two; or nowhere, where the two are the first parts themselves. Neither depends on how many steps
-- the comparison is given, if it ends.
abbrev pub LeadsTo : Pair → Option Pair → Type 0
LeadsTo parts (Some inner) =
    IsWellFormedPair inner
    × ((steps : ℕ) → pair_compared (suc steps) parts ≡ Mismatch
    → (pair_compared steps inner ≡ Mismatch) × (first_parts (suc steps) parts ≡ first_parts steps inner))
LeadsTo parts None = (steps : ℕ) → pair_compared steps parts ≡ Mismatch → first_parts steps parts ≡ Some parts

-- In each comparison of the two that comes to no match, these are the first parts that do not match.
abbrev pub AreFirstParts : Pair → Pair → Type 0
AreFirstParts parts first =
    (steps : ℕ) → pair_compared steps parts ≡ Mismatch → first_parts steps parts ≡ Some first

-- Parts that one has come to from a root, with so many steps left: they are well formed, do not match in so many steps,
-- and in each comparison of the root that comes to no match their first parts are those of the root.
abbrev pub IsOnTheWay : Pair → Pair → ℕ → Type 0
IsOnTheWay root parts left =
    IsWellFormedPair parts × (pair_compared left parts ≡ Mismatch)
    × ((steps : ℕ) → pair_compared steps root ≡ Mismatch
    → (fewer : ℕ) × (pair_compared fewer parts ≡ Mismatch) × (first_parts steps root ≡ first_parts fewer parts))

-- what is answered of a comparison: whether it comes to a match
abbrev pub IsMatched : Comparison → Bool → Type 0
IsMatched comparison true = (demands : List Demand) × (comparison ≡ Matches demands)
IsMatched comparison false = comparison ≡ Mismatch
