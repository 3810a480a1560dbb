-- How deep a walk is, as it is counted: one more than the greatest index is the most.
use Rattle.std.specs.Prelude.{ℕ, min}

-- the number of binders above, or the most
abbrev pub counted_depth : ℕ → ℕ
counted_depth binders = min binders 4294967296
