-- The counts of summaries.
use Rattle.std.proofs.Common.{◌≡◌, ℕ, ◌≤◌, min, refl, arith}
use Rattle.cc_worked_jobs.specs.CountExamples as example

within : (n limit : ℕ) → n ≤ limit → min n limit ≡ n
within n limit h = omega arith

beyond : (n limit : ℕ) → limit ≤ n → min n limit ≡ limit
beyond n limit h = omega arith

pub counts_are_bounded : example.CountsAreBounded
counts_are_bounded = (λ n h. within n 18446744073709551615 h, λ n h. beyond n 18446744073709551615 h)

pub great_counts : example.GreatCounts
great_counts = (refl, refl, refl, refl, refl, refl, refl, refl)

pub summaries_are_bounded : example.SummariesAreBounded
summaries_are_bounded workload text = refl
