-- Reading a source line by line: what is held of what was read, and what is taken from both.
use Rattle.std.specs.Prelude.{◌≡◌, ◌⊎◌, ℕ, ◌+◌, ◌<◌, ◌≤◌, Bool, true, false, List, [], ◌∷◌, ◌++◌, length, Option, None, IsTrue, Result, Ok, Err}
use Rattle.std.specs.Io.KnownBytes.{Consumes, IsAtEnd}
use Rattle.cc_io.specs.declared.whole.ReadAll.{ReadAll}
use Rattle.cc_io.specs.declared.whole.ReadAll.TheVariants as read_errors
use Rattle.cc_words.specs.Lines.{Line, lines_of, AreWholeLines}
use Rattle.cc_words.specs.Words.{cut_at}

-- what was read of a source and not taken yet, and whether the source has come to its end
pub record Held : Type 0 where
  pub bytes : List ℕ
  pub ended : Bool

-- From what is held and from a source, which has so much left, these bytes were taken, in order. Where the source has come
-- to its end, nothing more was read.
pub record Takes (old new : Held) (left later : Option (List ℕ)) (bytes : List ℕ) : Type 0 where
  pub read : List ℕ
  pub consumed : Consumes left later read
  pub parts : old.bytes ++ read ≡ bytes ++ new.bytes
  pub quiet : IsTrue old.ended → read ≡ []

-- nothing is left
abbrev pub IsOver : Held → Type 0
IsOver held = IsTrue held.ended × (held.bytes ≡ [])

-- These lines were taken. The last one may stand without its line feed, where nothing is left behind it.
pub record Hears (old new : Held) (left later : Option (List ℕ)) (lines : List Line) : Type 0 where
  pub bytes : List ℕ
  pub takes : Takes old new left later bytes
  pub are : lines_of bytes ≡ lines
  pub whole : AreWholeLines bytes ⊎ IsOver new
  pub stays : IsTrue old.ended → IsTrue new.ended

-- These bytes were taken, with no line feed among them.
pub record HearsPart (old new : Held) (left later : Option (List ℕ)) (part : List ℕ) : Type 0 where
  pub takes : Takes old new left later part
  pub no_feed : cut_at 10 part ≡ None
  pub stays : IsTrue old.ended → IsTrue new.ended

-- all that was read was taken, and the source has not come to its end
abbrev pub IsDrained : Held → Type 0
IsDrained held = (held.bytes ≡ []) × (held.ended ≡ false)

-- What comes of asking for the next line, which is put behind bytes with its line feed: it is, and all has no more bytes
-- than the limit; or nothing is left; or a part of a line was taken, all that had been read, and a further read failed; or a
-- part of one was that has more bytes than the limit with its line feed; or memory lacked for what was read.
abbrev pub HearsNext : Held → Held → Option (List ℕ) → Option (List ℕ) → List ℕ → List ℕ → ℕ → Result Bool ReadAll → Type 0
HearsNext old new left later before behind limit (Ok true) =
    (line : Line) × Hears old new left later (line ∷ []) × (behind ≡ before ++ (line ++ 10 ∷ [])) × (length behind ≤ limit)
HearsNext old new left later before behind limit (Ok false) =
    Hears old new left later [] × IsOver new × IsAtEnd later × (behind ≡ before)
HearsNext old new left later before behind limit (Err read_errors.ReadFault) =
    (part : List ℕ) × HearsPart old new left later part × IsDrained new
HearsNext old new left later before behind limit (Err read_errors.TooLong) =
    (part : List ℕ) × (rest : Held) × HearsPart old rest left later part × (limit ≤ length before + length part)
HearsNext old new left later before behind limit (Err read_errors.NoMemory) =
    (read : List ℕ) × Consumes left later read

-- What putting bytes behind others does: they are put there, and all with a line feed has no more bytes than the limit; or it
-- has more; or memory lacked.
abbrev pub PutsWithin : List ℕ → List ℕ → List ℕ → ℕ → Result (Unit {0}) ReadAll → Type 0
PutsWithin before behind front limit (Ok u) = (behind ≡ before ++ front) × (length before + length front < limit)
PutsWithin before behind front limit (Err read_errors.ReadFault) = ⊥
PutsWithin before behind front limit (Err read_errors.TooLong) = limit ≤ length before + length front
PutsWithin before behind front limit (Err read_errors.NoMemory) = Unit {0}

-- What taking the front of what is held does: all before the first line feed was put behind the bytes, with it, or all that is
-- held where there is none; or all with a line feed has more bytes than the limit; or memory lacked, and nothing was taken.
abbrev pub PutsFront : Held → Held → List ℕ → List ℕ → ℕ → Result Bool ReadAll → Type 0
PutsFront old new before behind limit (Ok true) =
    (front : List ℕ) × (cut_at 10 front ≡ None) × (old.bytes ≡ front ++ 10 ∷ new.bytes)
    × (behind ≡ (before ++ front) ++ 10 ∷ []) × (length before + length front < limit)
PutsFront old new before behind limit (Ok false) =
    (cut_at 10 old.bytes ≡ None) × (new.bytes ≡ []) × (behind ≡ before ++ old.bytes)
    × (length before + length old.bytes < limit)
PutsFront old new before behind limit (Err read_errors.ReadFault) = ⊥
PutsFront old new before behind limit (Err read_errors.TooLong) =
    (front : List ℕ) × (rest : List ℕ) × (cut_at 10 front ≡ None) × (old.bytes ≡ front ++ rest)
    × (limit ≤ length before + length front)
PutsFront old new before behind limit (Err read_errors.NoMemory) = new ≡ old

-- What reading a piece does where nothing is held: it is held then; or the source has come to its end; or a read failed, or
-- memory lacked, and nothing is held.
abbrev pub Refills : Held → Held → Option (List ℕ) → Option (List ℕ) → Result Bool ReadAll → Type 0
Refills old new left later (Ok true) =
    Consumes left later new.bytes × (0 < length new.bytes) × (length new.bytes ≤ 4096) × (old.ended ≡ false) × (new.ended ≡ false)
Refills old new left later (Ok false) =
    Consumes left later [] × IsAtEnd later × IsOver new × (IsTrue old.ended → IsTrue new.ended)
Refills old new left later (Err read_errors.ReadFault) = Consumes left later [] × (new ≡ old) × (old.ended ≡ false)
Refills old new left later (Err read_errors.TooLong) = ⊥
Refills old new left later (Err read_errors.NoMemory) =
    (piece : List ℕ) × Consumes left later piece × (length piece ≤ 4096) × (new ≡ old) × (old.ended ≡ false)

-- the same where bytes may be held: then nothing is read
abbrev pub HasMore : Held → Held → Option (List ℕ) → Option (List ℕ) → Result Bool ReadAll → Type 0
HasMore old new left later result =
    ((result ≡ Ok true) × (0 < length old.bytes) × (new ≡ old) × Consumes left later [])
    ⊎ ((old.bytes ≡ []) × Refills old new left later result)

-- No more was read than a line needs: all that was held, and all that was read but the last piece, has no line feed.
pub record ReadsAsNeeded (old : Held) (left later : Option (List ℕ)) : Type 0 where
  pub earlier : List ℕ
  pub last : List ℕ
  pub consumed : Consumes left later (earlier ++ last)
  pub needed : (last ≡ []) ⊎ (cut_at 10 (old.bytes ++ earlier) ≡ None)
  pub small : length last ≤ 4096
