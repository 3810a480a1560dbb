-- What a token breaks at, found from the front of a text where none begins.
use Rattle.std.specs.Prelude.{◌≡◌, ◌==◌, ℕ, zero, suc, false, List, [], ◌∷◌, Option, Some, None, IsTrue, IsUtf8}
use Rattle.std.specs.Prelude.{if◌then◌else◌}
use Rattle.std.specs.Char.{is_ascii_digit}
use Rattle.std.specs.Str.{chars}
use Rattle.cc_base.specs.Names.{first_passes}
use Rattle.cc_lex.specs.Forms.{stands_in_string}
use Rattle.cc_text_reasons.specs.TextReasons.{Break, AtCharacter, AtEnd, TooGreat}

-- what stands at the front, or the end
abbrev pub next_of : List ℕ → Break
next_of [] = AtEnd
next_of (c ∷ cs) = AtCharacter c

-- what is left behind the characters at the front that may stand between quotes, of which there are at most so many
abbrev pub behind_inside : ℕ → List ℕ → List ℕ
behind_inside zero cs = cs
behind_inside (suc n) [] = []
behind_inside (suc n) (c ∷ cs) = if stands_in_string c then behind_inside n cs else c ∷ cs

-- The answer is the text that follows the first character, if that may stand between quotes.
abbrev pub IsBehindInside : List ℕ → Option (List ℕ) → Type 0
IsBehindInside cs (Some rest) = ((c : ℕ) × (cs ≡ c ∷ chars rest) × IsTrue (stands_in_string c)) × IsUtf8 rest
IsBehindInside cs None = first_passes stands_in_string cs ≡ false

-- A digit begins a number at least, which is then too great; a quote begins a string, a slash a comment, and any other
-- character nothing.
unfoldable pub breaking : List ℕ → Break
breaking [] = AtEnd
breaking (c ∷ cs) =
    if is_ascii_digit c then TooGreat
    else if c == 34 then next_of (behind_inside 200 cs)
    else if c == 47 then next_of cs
    else AtCharacter c
