-- Which bytes a sink over a writer has acknowledged, by the calls of the writer that it has made.
use Rattle.std.specs.Prelude.{◌≡◌, ℕ, zero, suc, ◌≤◌, List, [], ◌++◌, length, take, Option, Result, Ok, Err}
use Rattle.std.specs.declared.io.Error.{Error}
use Rattle.std.specs.Io.{WritesAtMost}
use Rattle.std.specs.Io.KnownBytes.{Appends, Keeps, WriteAppends}
use Rattle.cc_io.specs.declared.traits.WriteError.TheVariants as write_errors
use Rattle.cc_io.specs.HandedOn.{IsFlushedBehind, HandsOnWrite}

-- A writer, how many of the sink's writes failed, the writer as the sink was given it, and the bytes that the sink has
-- acknowledged since.
pub record Acknowledging (W : Type 0) : Type 0 where
  pub stream : W
  pub faults : ℕ
  pub begun : W
  pub acknowledged : List ℕ

abbrev pub acknowledging : {W : Type 0} → W → ℕ → W → List ℕ → Acknowledging W
acknowledging stream faults begun acknowledged = record {
  stream = stream;
  faults = faults;
  begun = begun;
  acknowledged = acknowledged;
}

-- A write of the writer, with what std says of each: it takes no more than the piece has, and what the writer holds grows
-- by the front that it took, or is kept at an error.
abbrev pub StdWrites : {W : Type 0} → (W → Option (List ℕ)) → (W → List ℕ → Result ℕ Error → W → Type 0)
    → W → List ℕ → Result ℕ Error → W → Type 0
StdWrites contents writes old piece answer new =
    writes old piece answer new × WritesAtMost answer piece × WriteAppends (contents old) (contents new) answer piece

-- A flush of the writer, with what std says of each: what the writer holds is kept.
abbrev pub StdFlushes : {W : Type 0} → (W → Option (List ℕ)) → (W → Result (Unit {0}) Error → W → Type 0)
    → W → Result (Unit {0}) Error → W → Type 0
StdFlushes contents flushes old answer new = flushes old answer new × Keeps (contents old) (contents new)

-- From the state in which the writer was given to the sink, it came to this state by writes and flushes alone: those of
-- the sink's own writes, one after the other. So many of these failed, and these bytes were acknowledged, in order. The
-- bytes of a write are acknowledged where the writer took them and the flush behind that succeeded; a write that fails
-- acknowledges nothing.
pub data HasAcknowledged {W : Type 0} (writes : W → List ℕ → Result ℕ Error → W → Type 0)
    (flushes : W → Result (Unit {0}) Error → W → Type 0) (begun : W) : W → ℕ → List ℕ → Type 0 where
  nothing : HasAcknowledged writes flushes begun begun 0 []
  taken : (old new : W) (faults : ℕ) (bytes piece : List ℕ) (n : ℕ) → HasAcknowledged writes flushes begun old faults bytes
      → n ≤ length piece → IsFlushedBehind writes flushes old new piece n (Ok tt)
      → HasAcknowledged writes flushes begun new faults (bytes ++ take n piece)
  failed : (old new : W) (faults : ℕ) (bytes piece : List ℕ) → HasAcknowledged writes flushes begun old faults bytes
      → HandsOnWrite writes flushes old new piece (Err write_errors.Failed)
      → HasAcknowledged writes flushes begun new (suc faults) bytes

-- What was given has the acknowledged bytes in order, and at each fault some bytes more: what the writer took of the piece
-- whose write failed. With no fault it is the acknowledged bytes.
abbrev pub HasBesides : ℕ → List ℕ → List ℕ → Type 0
HasBesides zero given acknowledged = given ≡ acknowledged
HasBesides (suc faults) given acknowledged = (given' : List ℕ) × (acknowledged' : List ℕ) × (more : List ℕ) × (rest : List ℕ)
    × (given ≡ given' ++ more ++ rest) × (acknowledged ≡ acknowledged' ++ rest) × HasBesides faults given' acknowledged'

-- Where the writer tells what it holds, that has grown by the acknowledged bytes, and by what it took of the pieces whose
-- writes failed.
abbrev pub HoldsAcknowledged : {W : Type 0} → (W → Option (List ℕ)) → W → W → ℕ → List ℕ → Type 0
HoldsAcknowledged contents begun now faults bytes =
    (given : List ℕ) × Appends (contents begun) (contents now) given × HasBesides faults given bytes
