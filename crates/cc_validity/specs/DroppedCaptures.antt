-- How many turns it takes to drop by a loop what is known of captures. It serves the code alone.
use Rattle.std.specs.Prelude.{ℕ, ◌+◌, ◌≤◌}
use Rattle.cc_validity.specs.declared.captures.Captures.{Captures}
use Rattle.cc_validity.specs.declared.captures.Captures.TheVariants as known

-- the turns for what is known
abbrev pub turns : Captures → ℕ
turns known.Unknown = 0
turns (known.Body' set p body) = 1 + turns body
turns (known.Parts' p first q second) = 2 + (turns first + turns second)

-- the turns for what waits
abbrev pub turns_waiting : Captures → ℕ
turns_waiting known.Unknown = 0
turns_waiting (known.Body' set p body) = 1 + turns body
turns_waiting (known.Parts' p first q others) = 1 + (turns first + turns_waiting others)

-- nothing that waits is larger than the limit
abbrev pub NoneLarger : (Captures → ℕ) → ℕ → Captures → Type 0
NoneLarger size limit known.Unknown = Unit {0}
NoneLarger size limit (known.Body' set p body) = size body ≤ limit
NoneLarger size limit (known.Parts' p first q others) = (size first ≤ limit) × NoneLarger size limit others
