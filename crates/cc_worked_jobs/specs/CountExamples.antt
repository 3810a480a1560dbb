-- The counts of summaries, however great.
use Rattle.std.specs.Prelude.{◌≡◌, ℕ, ◌≤◌, min, List, ◌++◌, length, codes}
use Rattle.std.specs.Fmt.{decimal}
use Rattle.cc_summary.specs.Summaries.{counted, last_line, summary_text, without_indent}
use Rattle.cc_words.specs.Lines.{lines_of}

-- A count is told as it is up to the greatest number of 64 bits, and this one is told of each that is greater.
abbrev pub CountsAreBounded : Type 0
CountsAreBounded =
    ((n : ℕ) → n ≤ 18446744073709551615 → counted n ≡ n)
    × ((n : ℕ) → 18446744073709551615 ≤ n → counted n ≡ 18446744073709551615)

-- around the powers of 32 and of 64 bits
abbrev pub GreatCounts : Type 0
GreatCounts =
    (counted 4294967294 ≡ 4294967294) × (counted 4294967295 ≡ 4294967295) × (counted 4294967296 ≡ 4294967296)
    × (counted 4294967297 ≡ 4294967297) × (counted 18446744073709551614 ≡ 18446744073709551614)
    × (counted 18446744073709551615 ≡ 18446744073709551615) × (counted 18446744073709551616 ≡ 18446744073709551615)
    × (counted 36893488147419103232 ≡ 18446744073709551615)

-- Both counts of a text are told so, that of its lines before that of its bytes.
abbrev pub SummariesAreBounded : Type 0
SummariesAreBounded =
    (workload : ℕ) (text : List ℕ)
    → summary_text workload text
    ≡ codes "workload " ++ decimal workload ++ codes "\nlines "
    ++ decimal (min (length (lines_of text)) 18446744073709551615) ++ codes "\nbytes "
    ++ decimal (min (length text) 18446744073709551615) ++ codes "\nlast "
    ++ without_indent (last_line text) ++ codes "\n"
