-- The first parts that do not match are the same in each comparison that ends, and a match has none.
use Rattle.std.specs.Prelude.{◌≡◌, ℕ, List, None}
use Rattle.cc_core.specs.Contexts.{Context}
use Rattle.cc_core.specs.Shapes.{Shape}
use Rattle.cc_checking.specs.Comparison.{Demand, Mismatch, Matches, comparison}
use Rattle.cc_reasons.specs.Mismatches.{mismatch}

-- in however many steps the shapes do not match, the same parts are found
abbrev pub FoundPartsAreTheSame : Type 0
FoundPartsAreTheSame =
    (few many : ℕ) (context : Context) (left right : Shape) → comparison few context left right ≡ Mismatch
    → comparison many context left right ≡ Mismatch → mismatch few context left right ≡ mismatch many context left right

-- where the shapes match, none are found
abbrev pub MatchesHaveNoParts : Type 0
MatchesHaveNoParts =
    (steps : ℕ) (context : Context) (left right : Shape) (demands : List Demand)
    → comparison steps context left right ≡ Matches demands → mismatch steps context left right ≡ None
