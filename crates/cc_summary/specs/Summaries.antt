-- The summary of a text: how many lines and bytes it has, and its last line.
use Rattle.std.specs.Prelude.{◌≡◌, ℕ, ◌-◌, ◌^◌, ◌==◌, ◌&&◌, min, Bool, true, if◌then◌else◌, List, [], ◌∷◌, ◌++◌, length, codes}
use Rattle.std.specs.Fmt.{decimal}
use Rattle.cc_words.specs.Lines.{Line, lines_of, is_whole_behind}

-- a count stops at the largest u64
abbrev pub counted : ℕ → ℕ
counted n = min n (2 ^ 64 - 1)

-- how many lines a text has; what stands behind its last line feed is a line too where it is not empty
abbrev pub line_count : List ℕ → ℕ
line_count text = length (lines_of text)

-- the last of some lines, or the line before them where there is none
abbrev pub last_behind : Line → List Line → Line
last_behind before [] = before
last_behind before (line ∷ lines) = last_behind line lines

-- the last line of a text without its line feed, the empty one of an empty text
abbrev pub last_line : List ℕ → Line
last_line text = last_behind [] (lines_of text)

-- a line without its two leading spaces; any other line is as it was
abbrev pub without_indent : Line → Line
without_indent [] = []
without_indent (first ∷ []) = first ∷ []
without_indent (first ∷ second ∷ rest) = if (first == 32) && (second == 32) then rest else first ∷ second ∷ rest

-- the four lines of a summary: the number of the workload, the lines and the bytes of the text, and its last line
abbrev pub summary_text : ℕ → List ℕ → List ℕ
summary_text workload text =
    codes "workload " ++ decimal workload ++ codes "\nlines " ++ decimal (counted (line_count text)) ++ codes "\nbytes "
    ++ decimal (counted (length text)) ++ codes "\nlast " ++ without_indent (last_line text) ++ codes "\n"

-- what is kept of a text: its counts, its last line, and whether each of its lines has its line feed
abbrev pub IsTally : List ℕ → ℕ → ℕ → Line → Bool → Type 0
IsTally text lines bytes last ended =
    (lines ≡ counted (line_count text)) × (bytes ≡ counted (length text)) × (last ≡ last_line text)
    × (ended ≡ is_whole_behind true text)
