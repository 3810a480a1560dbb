-- What the reading and the writing of a whole text do to the bytes and to the count of faults.
use Rattle.std.specs.Prelude.{◌≡◌, ℕ, ◌+◌, ◌<◌, ◌≤◌, List, length, take, Result, Ok, Err}
use Rattle.std.specs.declared.option.Option.{Option}
use Rattle.std.specs.Io.KnownBytes.{Appends, Consumes}
use Rattle.cc_io.specs.declared.whole.ReadAll.{ReadAll}
use Rattle.cc_io.specs.declared.whole.ReadAll.TheVariants as read_errors
use Rattle.cc_io.specs.declared.whole.WriteAll.{WriteAll}
use Rattle.cc_io.specs.declared.whole.WriteAll.TheVariants as write_errors

-- some bytes were consumed, whose number is as P says
abbrev pub TakesCount : (ℕ → Type 0) → Option (List ℕ) → Option (List ℕ) → Type 0
TakesCount P old new = (bs : List ℕ) × Consumes old new bs × P (length bs)

-- how many bytes are taken at each answer: one more than the limit exactly where they are too many
abbrev pub Takes : {T : Type 0} → ℕ → Option (List ℕ) → Option (List ℕ) → Result T ReadAll → Type 0
Takes limit old new (Ok v) = TakesCount (λ n. n ≤ limit) old new
Takes limit old new (Err read_errors.ReadFault) = TakesCount (λ n. n ≤ limit) old new
Takes limit old new (Err read_errors.TooLong) = TakesCount (λ n. n ≡ limit + 1) old new
Takes limit old new (Err read_errors.NoMemory) = TakesCount (λ n. n ≤ limit) old new

-- the count of faults rises exactly where a read fault is answered
abbrev pub ReadAllCause : {T : Type 0} → ℕ → ℕ → Result T ReadAll → Type 0
ReadAllCause before after (Ok v) = after ≡ before
ReadAllCause before after (Err read_errors.ReadFault) = before < after
ReadAllCause before after (Err read_errors.TooLong) = after ≡ before
ReadAllCause before after (Err read_errors.NoMemory) = after ≡ before

-- a front of the piece is appended
abbrev pub AppendsFront : Option (List ℕ) → Option (List ℕ) → List ℕ → Type 0
AppendsFront old new piece = (n : ℕ) × (n ≤ length piece) × Appends old new (take n piece)

-- all bytes are appended, and at an error a front of them
abbrev pub WritesWhole : {T : Type 0} → Option (List ℕ) → Option (List ℕ) → Result T WriteAll → List ℕ → Type 0
WritesWhole old new (Ok u) bytes = Appends old new bytes
WritesWhole old new (Err write_errors.WriteFault) bytes = AppendsFront old new bytes
WritesWhole old new (Err write_errors.NoMemory) bytes = AppendsFront old new bytes

-- the count of faults rises exactly where a write fault is answered
abbrev pub WriteAllCause : {T : Type 0} → ℕ → ℕ → Result T WriteAll → Type 0
WriteAllCause before after (Ok u) = after ≡ before
WriteAllCause before after (Err write_errors.WriteFault) = before < after
WriteAllCause before after (Err write_errors.NoMemory) = after ≡ before
