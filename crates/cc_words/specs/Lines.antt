-- Lines of a text.
use Rattle.std.specs.Prelude.{ℕ, ◌-◌, Bool, true, ◌==◌, List, [], ◌∷◌, Option, Some, None, IsTrue, if◌then◌else◌}
use Rattle.std.specs.Option.{option_map}
use Rattle.cc_words.specs.Words.{cut_at}

-- a line or a word, as its bytes
abbrev pub Line : Type 0
Line = List ℕ

-- the byte before all that stands in the first line
abbrev pub before_first_line : ℕ → List Line → List Line
before_first_line byte [] = (byte ∷ []) ∷ []
before_first_line byte (line ∷ lines) = (byte ∷ line) ∷ lines

-- The lines of a text. A line ends before a line feed; what stands behind the last line feed is a line where it is
-- not empty.
abbrev pub lines_of : List ℕ → List Line
lines_of [] = []
lines_of (byte ∷ bytes) = if byte == 10 then [] ∷ lines_of bytes else before_first_line byte (lines_of bytes)

-- whether each line of a text has its line feed, where what stands before the text ends with one or not
abbrev pub is_whole_behind : Bool → List ℕ → Bool
is_whole_behind before [] = before
is_whole_behind before (byte ∷ bytes) = is_whole_behind (byte == 10) bytes

-- each line of the text has its line feed
abbrev pub AreWholeLines : List ℕ → Type 0
AreWholeLines text = IsTrue (is_whole_behind true text)

-- what was cut, or all bytes with nothing behind them
abbrev pub or_all : List ℕ → Option (List ℕ × List ℕ) → List ℕ × List ℕ
or_all bytes (Some cut) = cut
or_all bytes None = (bytes, [])

-- the first line, and what stands behind it
abbrev pub next_line : List ℕ → List ℕ × List ℕ
next_line bytes = or_all bytes (cut_at 10 bytes)

-- one less where a line ends
abbrev pub left_behind : ℕ → ℕ → ℕ
left_behind b count = if b == 10 then count - 1 else count

-- the text of so many whole lines, and what stands behind it
abbrev pub text_cut : ℕ → List ℕ → Option (List ℕ × List ℕ)
text_cut count [] = if count == 0 then Some ([], []) else None
text_cut count (b ∷ bs) =
    if count == 0 then Some ([], b ∷ bs)
    else option_map (λ cut. (b ∷ cut.0, cut.1)) (text_cut (left_behind b count) bs)
