-- What one read and one write do to the bytes and to the count of faults.
use Rattle.std.specs.Prelude.{◌≡◌, ℕ, ◌<◌, ◌≤◌, List, length, take, Result, Ok, Err}
use Rattle.std.specs.declared.option.Option.{Option}
use Rattle.std.specs.Io.KnownBytes.{Appends, Keeps}
use Rattle.cc_io.specs.declared.traits.Failed.{Failed}
use Rattle.cc_io.specs.declared.traits.WriteError.{WriteError}
use Rattle.cc_io.specs.declared.traits.WriteError.TheVariants as write_errors

-- the count of faults rises exactly where a read fails
abbrev pub ReadCause : {T : Type 0} → ℕ → ℕ → Result T Failed → Type 0
ReadCause before after (Ok n) = after ≡ before
ReadCause before after (Err failed) = before < after

-- the count of faults rises exactly where a write fails, and not where memory lacks
abbrev pub WriteCause : {T : Type 0} → ℕ → ℕ → Result T WriteError → Type 0
WriteCause before after (Ok n) = after ≡ before
WriteCause before after (Err write_errors.Failed) = before < after
WriteCause before after (Err write_errors.NoMemory) = after ≡ before

-- a write appends the front of the piece that it answers, at least a byte of a nonempty piece, and nothing at an error
abbrev pub Writes : Option (List ℕ) → Option (List ℕ) → Result ℕ WriteError → List ℕ → Type 0
Writes old new (Ok n) piece = (n ≤ length piece) × (0 < length piece → 0 < n) × Appends old new (take n piece)
Writes old new (Err error) piece = Keeps old new
