-- What a source over a reader and a sink over a writer hand on of the calls that they make.
use Rattle.std.specs.Prelude.{ℕ, ◌<◌, ◌⊎◌, List, length, take, Option, Result, Ok, Err}
use Rattle.std.specs.declared.io.Error.{Error}
use Rattle.std.specs.Io.KnownBytes.{Appends}
use Rattle.cc_io.specs.declared.traits.Failed.{Failed}
use Rattle.cc_io.specs.declared.traits.WriteError.{WriteError}
use Rattle.cc_io.specs.declared.traits.WriteError.TheVariants as write_errors
use Rattle.cc_io.specs.Wholes.{AppendsFront}

-- a reader or a writer, and how many of its calls were answered as faults
pub record Counted (S : Type 0) : Type 0 where
  pub stream : S
  pub faults : ℕ

abbrev pub counted : {S : Type 0} → S → ℕ → Counted S
counted stream faults = record { stream = stream; faults = faults }

-- The reader was read once, into all of the room. An error is handed on as a failure. Any other answer is handed on as
-- it is, the end of the reader too, with the bytes that the reader gave.
abbrev pub HandsOnRead : {R : Type 0} → (R → List ℕ → Result ℕ Error → List ℕ → R → Type 0)
    → R → R → List ℕ → List ℕ → Result ℕ Failed → Type 0
HandsOnRead reads old new room filled (Ok n) = reads old room (Ok n) filled new
HandsOnRead reads old new room filled (Err failed) = (error : Error) × reads old room (Err error) filled new

-- The writer was given the piece once and took n bytes of it, and then it was flushed once, which was answered so.
pub record IsFlushedBehind {W : Type 0} (writes : W → List ℕ → Result ℕ Error → W → Type 0)
    (flushes : W → Result (Unit {0}) Error → W → Type 0) (old new : W) (piece : List ℕ) (n : ℕ)
    (answer : Result (Unit {0}) Error) : Type 0 where
  pub between : W
  pub written : writes old piece (Ok n) between
  pub flushed : flushes between answer new

-- A write is taken where the writer took as much and then was flushed. It fails where the writer failed, where it took
-- nothing of a nonempty piece, and where the flush behind it failed. No other call is made, and memory never lacks.
abbrev pub HandsOnWrite : {W : Type 0} → (W → List ℕ → Result ℕ Error → W → Type 0)
    → (W → Result (Unit {0}) Error → W → Type 0) → W → W → List ℕ → Result ℕ WriteError → Type 0
HandsOnWrite writes flushes old new piece (Ok n) = IsFlushedBehind writes flushes old new piece n (Ok tt)
HandsOnWrite writes flushes old new piece (Err write_errors.Failed) =
    ((error : Error) × writes old piece (Err error) new)
    ⊎ ((0 < length piece) × writes old piece (Ok 0) new)
    ⊎ ((n : ℕ) × (error : Error) × IsFlushedBehind writes flushes old new piece n (Err error))
HandsOnWrite writes flushes old new piece (Err write_errors.NoMemory) = ⊥

-- The writer got the front of the piece that is answered, and at an error some front: what it took before it failed to
-- flush.
abbrev pub GivesFront : Option (List ℕ) → Option (List ℕ) → Result ℕ WriteError → List ℕ → Type 0
GivesFront old new (Ok n) piece = Appends old new (take n piece)
GivesFront old new (Err error) piece = AppendsFront old new piece
