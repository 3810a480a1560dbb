-- What a line says that is no job's. It serves the code alone.
use Rattle.std.specs.Prelude.{List, ℕ, Option, Some, None, codes, if◌then◌else◌}
use Rattle.std.specs.Str.{bytes_eq}
use Rattle.cc_words.specs.Words.{◌>>=◌, split_at, first_and_rest, one_of, two_of, name_of, pair_of, number_of}
use Rattle.cc_item_reading.specs.declared.asides.Aside.{Aside}
use Rattle.cc_item_reading.specs.declared.asides.Aside.TheVariants.{Live, Why}

-- a definition and how many steps its run may take, of these words
unfoldable pub live_of : List (List ℕ) → Option Aside
live_of words = do
  two ← two_of words
  pair ← pair_of two.0
  fuel ← number_of 1000000 two.1
  Some (Live pair.0 pair.1 fuel)

-- the module that these words name, of which it is asked why
unfoldable pub why_of : List (List ℕ) → Option Aside
why_of words = do
  word ← one_of words
  name ← name_of word
  Some (Why name)

-- what a word and those behind it say
unfoldable pub aside_with : List ℕ → List (List ℕ) → Option Aside
aside_with word rest =
    if bytes_eq word (codes "live") then live_of rest
    else if bytes_eq word (codes "why") then why_of rest
    else None

-- what a line says
unfoldable pub aside_of : List ℕ → Option Aside
aside_of line = do
  split ← first_and_rest (split_at 32 line)
  aside_with split.0 split.1
