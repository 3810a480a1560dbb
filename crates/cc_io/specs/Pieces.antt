-- What the writing of a text in pieces does: each piece is put behind what waits, which goes to the sink now and then.
use Rattle.std.specs.Prelude.{◌≡◌, ℕ, List, ◌++◌, Option, Result, Ok, Err}
use Rattle.std.specs.Io.KnownBytes.{Appends}
use Rattle.cc_io.specs.declared.whole.WriteAll.{WriteAll}
use Rattle.cc_io.specs.Wholes.{AppendsFront}

-- The text was put behind what waited before. Some bytes from the front of both are appended, and the others wait.
pub record IsPassedOn (old new : Option (List ℕ)) (before waiting text : List ℕ) : Type 0 where
  pub gone : List ℕ
  pub appended : Appends old new gone
  pub all : gone ++ waiting ≡ before ++ text

-- The text was put behind what waited before, and what was not appended waits. At an error a front of both is appended.
abbrev pub Streams : {T : Type 0} → Option (List ℕ) → Option (List ℕ) → List ℕ → List ℕ → Result T WriteAll → List ℕ
    → Type 0
Streams old new before waiting (Ok u) text = IsPassedOn old new before waiting text
Streams old new before waiting (Err error) text = AppendsFront old new (before ++ text)
