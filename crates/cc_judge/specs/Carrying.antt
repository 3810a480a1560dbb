-- Carrying out plans. It serves the code alone.
use Rattle.std.specs.Prelude.{◌≡◌, ℕ, ◌+◌, ◌<◌, ◌≤◌, List, length, Option, Some, vec_len, vec_capacity}
use Rattle.cc_judge.specs.declared.last.Last.{Last}
use Rattle.cc_judge.specs.declared.plans.Plan.{Plan}
use Rattle.cc_judge.specs.declared.plans.Plan.TheVariants.{Keep, Judge}
use Rattle.cc_judge.specs.Plans.{plan_at, IsPlanned}

-- there are grounds for each verdict
abbrev pub HasOneEach : Last → Type 0
HasOneEach last = length last.grounds.items ≡ length last.verdicts.items

-- there is room for so many judgements more
abbrev pub HasRoom : ℕ → Last → Type 0
HasRoom more last =
    (vec_len last.verdicts + more ≤ vec_capacity last.verdicts)
    × (vec_len last.grounds + more ≤ vec_capacity last.grounds)

-- the plan keeps one of so many judgements, if it keeps one
abbrev pub IsWithin : ℕ → Plan → Type 0
IsWithin count (Keep at) = at < count
IsWithin count (Judge name verdict grounds) = Unit {0}

-- how many of so many old judgements are left after the plan
abbrev pub left_by : ℕ → Plan → ℕ
left_by count (Keep at) = at
left_by count (Judge name verdict grounds) = count

-- There is a plan for each place; what is kept is there, and the places that are kept rise.
pub record AreReady (plans : List (Option Plan)) (count : ℕ) : Type 0 where
  pub made : (place : ℕ) → place < length plans → IsPlanned plans place
  pub within : (place at : ℕ) → place < length plans → plan_at plans place ≡ Some (Keep at) → at < count
  pub rising : (first second at other : ℕ) → first < second → second < length plans
      → plan_at plans first ≡ Some (Keep at) → plan_at plans second ≡ Some (Keep other) → at < other
