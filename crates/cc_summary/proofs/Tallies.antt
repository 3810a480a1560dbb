-- What one more byte does to the lines of a text, and to what is kept of it.
use Rattle.std.proofs.Common.{◌≡◌, ℕ, suc, ◌+◌, ◌-◌, ◌^◌, min, Bool, true, false, ◌==◌, cond, List, [], ◌∷◌, ◌++◌, length, refl, sym, ap, ◌∙◌, subst, arith}
use Rattle.std.proofs.lemmas.List.{length-append}
use Rattle.cc_words.specs.Lines.{Line, before_first_line, lines_of, is_whole_behind}
use Rattle.cc_summary.specs.Summaries.{last_behind, last_line, line_count, counted, IsTally}

-- what a byte adds to a line
abbrev pub added_by : ℕ → Line
added_by byte = cond (byte == 10) [] (byte ∷ [])

-- a line and those behind it, with more bytes at the end of the last
abbrev pub longer_last : Line → List Line → Line → List Line
longer_last line [] more = (line ++ more) ∷ []
longer_last line (next ∷ lines) more = line ∷ longer_last next lines more

-- lines with more bytes at the end of the last
abbrev pub longer : List Line → Line → List Line
longer [] more = more ∷ []
longer (line ∷ lines) more = longer_last line lines more

-- lines with more bytes, in a line of their own where those before are whole
abbrev pub grown : Bool → List Line → Line → List Line
grown whole lines more = cond whole (lines ++ more ∷ []) (longer lines more)

-- there is a line
abbrev pub HasLine : List Line → Type 0
HasLine lines = (first : Line) × (others : List Line) × (lines ≡ first ∷ others)

has_line_in : (test : Bool) (byte : ℕ) (lines : List Line) → HasLine (cond test ([] ∷ lines) (before_first_line byte lines))
has_line_in true byte lines = ([], lines, refl)
has_line_in false byte [] = (byte ∷ [], [], refl)
has_line_in false byte (line ∷ lines) = (byte ∷ line, lines, refl)

has_line : (byte : ℕ) (bytes : List ℕ) → HasLine (lines_of (byte ∷ bytes))
has_line byte bytes = has_line_in (byte == 10) byte (lines_of bytes)

has_line_unless_whole : (text : List ℕ) → is_whole_behind true text ≡ false → HasLine (lines_of text)
has_line_unless_whole [] unended = cc
has_line_unless_whole (byte ∷ bytes) unended = has_line byte bytes

grown-one : (test : Bool) (byte : ℕ) → cond test ([] ∷ []) ((byte ∷ []) ∷ []) ≡ cond test [] (byte ∷ []) ∷ []
grown-one true byte = refl
grown-one false byte = refl

grown-two : (test : Bool) (byte : ℕ) (more : Line) → cond test ([] ∷ more ∷ []) ((byte ∷ more) ∷ []) ≡ grown test (cond test ([] ∷ []) ((byte ∷ []) ∷ [])) more
grown-two true byte more = refl
grown-two false byte more = refl

grown-first : (test whole : Bool) (byte : ℕ) (line : Line) (lines : List Line) (more : Line)
    → cond test ([] ∷ grown whole (line ∷ lines) more) (before_first_line byte (grown whole (line ∷ lines) more))
    ≡ grown whole (cond test ([] ∷ line ∷ lines) (before_first_line byte (line ∷ lines))) more
grown-first true true byte line lines more = refl
grown-first true false byte line lines more = refl
grown-first false true byte line lines more = refl
grown-first false false byte line [] more = refl
grown-first false false byte line (next ∷ lines) more = refl

grown-before : (test whole : Bool) (byte : ℕ) (lines : List Line) (more : Line) → HasLine lines
    → cond test ([] ∷ grown whole lines more) (before_first_line byte (grown whole lines more))
    ≡ grown whole (cond test ([] ∷ lines) (before_first_line byte lines)) more
grown-before test whole byte lines more has =
    subst (λ it. cond test ([] ∷ grown whole it more) (before_first_line byte (grown whole it more))
    ≡ grown whole (cond test ([] ∷ it) (before_first_line byte it)) more)
    (sym has.2) (grown-first test whole byte has.0 has.1 more)

pub lines_of-grown : (text : List ℕ) (byte : ℕ) → lines_of (text ++ byte ∷ []) ≡ grown (is_whole_behind true text) (lines_of text) (added_by byte)
lines_of-grown [] byte = grown-one (byte == 10) byte
lines_of-grown (first ∷ []) byte =
    ap (λ it. cond (first == 10) ([] ∷ it) (before_first_line first it)) (grown-one (byte == 10) byte)
    ∙ grown-two (first == 10) first (added_by byte)
lines_of-grown (first ∷ second ∷ rest) byte =
    ap (λ it. cond (first == 10) ([] ∷ it) (before_first_line first it)) (lines_of-grown (second ∷ rest) byte)
    ∙ grown-before (first == 10) (is_whole_behind (second == 10) rest) first (lines_of (second ∷ rest)) (added_by byte) (has_line second rest)

pub is_whole-grown : (before : Bool) (text : List ℕ) (byte : ℕ) → is_whole_behind before (text ++ byte ∷ []) ≡ (byte == 10)
is_whole-grown before [] byte = refl
is_whole-grown before (first ∷ rest) byte = is_whole-grown (first == 10) rest byte

length-longer_last : (line : Line) (lines : List Line) (more : Line) → length (longer_last line lines more) ≡ suc (length lines)
length-longer_last line [] more = refl
length-longer_last line (next ∷ lines) more = ap suc (length-longer_last next lines more)

last-longer_last : (before line : Line) (lines : List Line) (more : Line) → last_behind before (longer_last line lines more) ≡ last_behind line lines ++ more
last-longer_last before line [] more = refl
last-longer_last before line (next ∷ lines) more = last-longer_last line next lines more

last-append : (before : Line) (lines : List Line) (more : Line) → last_behind before (lines ++ more ∷ []) ≡ more
last-append before [] more = refl
last-append before (line ∷ lines) more = last-append line lines more

-- how many lines there are, and the last of them, where more bytes came
record Grows (whole : Bool) (lines : List Line) (more : Line) : Type 0 where
  pub count : length (grown whole lines more) ≡ cond whole (length lines + 1) (length lines)
  pub last : last_behind [] (grown whole lines more) ≡ cond whole [] (last_behind [] lines) ++ more

grows_in : (whole : Bool) (lines : List Line) (more : Line) → (whole ≡ false → HasLine lines) → Grows whole lines more
grows_in true lines more has = record { count = length-append lines (more ∷ []); last = last-append [] lines more }
grows_in false lines more has =
    let it = has refl in
    subst (λ ls. Grows false ls more) (sym it.2) (record {
      count = length-longer_last it.0 it.1 more;
      last = last-longer_last [] it.0 it.1 more;
    })

grows : (text : List ℕ) (byte : ℕ) → Grows (is_whole_behind true text) (lines_of text) (added_by byte)
grows text byte = grows_in (is_whole_behind true text) (lines_of text) (added_by byte) (has_line_unless_whole text)

counted-suc : (n : ℕ) → min (counted n + 1) (2 ^ 64 - 1) ≡ counted (n + 1)
counted-suc n = omega arith

counted-cond : (whole : Bool) (n : ℕ) → cond whole (min (counted n + 1) (2 ^ 64 - 1)) (counted n) ≡ counted (cond whole (n + 1) n)
counted-cond true n = counted-suc n
counted-cond false n = refl

-- what is kept behind one more byte
pub tally-grown : (text : List ℕ) (byte lines bytes : ℕ) (last : Line) (ended : Bool) → IsTally text lines bytes last ended
    → (test : Bool) → (byte == 10) ≡ test
    → IsTally (text ++ byte ∷ []) (cond ended (min (lines + 1) (2 ^ 64 - 1)) lines) (min (bytes + 1) (2 ^ 64 - 1))
    (cond ended [] last ++ cond test [] (byte ∷ [])) (byte == 10)
tally-grown text byte lines bytes last ended is test tested =
    let growth = grows text byte in
    let count = ap length (lines_of-grown text byte) ∙ growth.count in
    let last_is = ap (last_behind []) (lines_of-grown text byte) ∙ growth.last in
    rw (is.0, is.1, is.2, is.3) (
      counted-cond (is_whole_behind true text) (line_count text) ∙ ap counted (sym count),
      counted-suc (length text) ∙ ap counted (sym (length-append text (byte ∷ []))),
      ap (λ b. cond (is_whole_behind true text) [] (last_line text) ++ cond b [] (byte ∷ [])) (sym tested) ∙ sym last_is,
      sym (is_whole-grown true text byte),
    )
