-- Worked summaries.
use Rattle.std.specs.Prelude.{◌≡◌, [], codes}
use Rattle.cc_summary.specs.Summaries.{line_count, last_line, without_indent, summary_text}

-- a text of three lines, whose last one has two leading spaces
abbrev pub ThreeLines : Type 0
ThreeLines = summary_text 7 (codes "check\n  a accepted\n  b refused\n") ≡ codes "workload 7\nlines 3\nbytes 31\nlast b refused\n"

-- a last line that does not begin with two spaces stays as it is
abbrev pub NoIndent : Type 0
NoIndent = summary_text 0 (codes "check\nput a\n") ≡ codes "workload 0\nlines 2\nbytes 12\nlast put a\n"

-- one leading space stays, and of three the third stays
abbrev pub OtherIndents : Type 0
OtherIndents = (without_indent (codes " a") ≡ codes " a") × (without_indent (codes "   a") ≡ codes " a")
    × (without_indent (codes " ") ≡ codes " ") × (without_indent (codes "  ") ≡ [])

-- an empty text has no line and no byte, and its last line is empty
abbrev pub NoLine : Type 0
NoLine = summary_text 12 [] ≡ codes "workload 12\nlines 0\nbytes 0\nlast \n"

-- a last line with nothing in it
abbrev pub EmptyLastLine : Type 0
EmptyLastLine = summary_text 1 (codes "a\n\n") ≡ codes "workload 1\nlines 2\nbytes 3\nlast \n"

-- what stands behind the last line feed is a line
abbrev pub OpenLastLine : Type 0
OpenLastLine = (line_count (codes "a\nb") ≡ 2) × (last_line (codes "a\nb") ≡ codes "b")
