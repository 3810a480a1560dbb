-- How many turns it takes to drop premises by a loop. It serves the code alone.
use Rattle.std.specs.Prelude.{ℕ, ◌+◌, ◌≤◌}
use Rattle.cc_derivation.specs.declared.derivation.Premises.{Premises}
use Rattle.cc_derivation.specs.declared.derivation.Premises.TheVariants as lists

-- the turns for a list
abbrev pub turns : Premises → ℕ
turns lists.End = 0
turns (lists.More' p rule claim premises q rest) = 2 + (turns premises + turns rest)

-- the turns for derivations that wait
abbrev pub turns_waiting : Premises → ℕ
turns_waiting lists.End = 0
turns_waiting (lists.More' p rule claim premises q rest) = 1 + (turns premises + turns_waiting rest)

-- the premises of no derivation that waits are larger than the limit
abbrev pub NoneLarger : (Premises → ℕ) → ℕ → Premises → Type 0
NoneLarger size limit lists.End = Unit {0}
NoneLarger size limit (lists.More' p rule claim premises q rest) = (size premises ≤ limit) × NoneLarger size limit rest
