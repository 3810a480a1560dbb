-- The lines of bytes as a certificate, or the first bad one, by computation.
use Rattle.std.proofs.Common.{◌≡◌, ℕ, zero, suc, Bool, true, false, List, [], ◌∷◌, ◌++◌, length, nat_eq, refl}
use Rattle.std.specs.Fmt.{digits}
use Rattle.std.specs.Str.{chars, is_utf8}
use Rattle.std.specs.Str.Lossy.{utf8_valid_len}
use Rattle.std.proofs.lemmas.Bool.{eqb-true, eqb-false}
use Rattle.unicode_ident.proofs.Computing.{unicode_ident}
use lib.Utf8.{encode}
use Rattle.cc_base.specs.Names.{is_reserved, reserved_words}
use Rattle.cc_capture.specs.Elements.{element_order, same_element}
use Rattle.cc_capture.specs.Rising.{placed}
use Rattle.cc_capture.specs.Sets.{contains, same_set, image, flat_image, from_list, union, retain, remove, insert, empty}
use Rattle.cc_capture.specs.Variables.{same_variable}
use Rattle.cc_words.specs.Words.{name_of, number_of}
use Rattle.cc_certificate_text.specs.Certificates.{Line, Stage, Start, Binding, Proving, behind_line, IsCertificate, IsBadLine}
use Rattle.cc_certificate_text.specs.Reading.{Found as Reads, Got, Wrong, begun, word_at, exact_at, number_at, same_number_at, local_of, variable_of, element_of, other_of, elements_of, set_of, some_set_at, set_at, base_at, type_variable_at, leaf_at, shape_rule_at, shape_over, captured_at, arrow_type_at, plain_type_at, type_over, shape_at, type_at, variable_at, note_at, term_rule_at, head_rule_at, operated_at, computed_at, headed_at, text_of, text_at, number_literal, literal_of, word_term_at, plain_term_at, term_over, term_at}
use Rattle.cc_certificate_text.specs.LineReading.{first_over, first_at, set_claim_at, right_at, below_at, typing_claim_at, claim_at, rule_of, rule_at, numbers_of, numbers_at, ends_with, conclusion_at, numbered_node_at, node_at, name_at, bind_at, statement_at, line_at, next_line}
use Rattle.cc_certificate_text.proofs.Certified.{Come, come-read, bad-there, bad-end, whole-there}
use Rattle.cc_certificate_text.proofs.LinesRead.{StageOk}

-- LINES

-- what comes of reading: all lines; or the line of the number is bad; or the steps were too few
pub data Outcome : Type 0 where
  AllLines : (lines : List Line) → Outcome
  BadLine : (number : ℕ) → Outcome
  TooFew : Outcome

abbrev ended : List Line → Bool → Outcome
ended lines true = AllLines lines
ended lines false = BadLine (suc (length lines))

-- where nothing is left
abbrev at_end : List Line → Stage → Outcome
at_end lines Start = BadLine (suc (length lines))
at_end lines (Binding names context) = BadLine (suc (length lines))
at_end lines (Proving names count unused) = ended lines (nat_eq (length unused) 1)

-- what comes with what is read next
abbrev gone_on : (List Line → Stage → List ℕ → Outcome) → List Line → Stage → Reads Line → Outcome
gone_on next lines stage (Got line rest) = next (lines ++ line ∷ []) (behind_line stage line) rest
gone_on next lines stage Wrong = BadLine (suc (length lines))

-- the rest is read in so many steps, behind these lines
abbrev pub read_from : ℕ → List Line → Stage → List ℕ → Outcome
read_from zero lines stage bytes = TooFew
read_from (suc steps) lines stage [] = at_end lines stage
read_from (suc steps) lines stage (b ∷ bs) = gone_on (read_from steps) lines stage (next_line stage (b ∷ bs))

-- the bytes are what the outcome says
abbrev pub ComesTo : List ℕ → Outcome → Type 0
ComesTo bytes (AllLines lines) = IsCertificate bytes lines
ComesTo bytes (BadLine number) = IsBadLine bytes number
ComesTo bytes TooFew = Unit {0}

ended_comes : (bytes : List ℕ) (lines : List Line) (names : List (List ℕ)) (count : ℕ) (unused : List ℕ)
    → Come Start bytes lines (Proving names count unused) [] → (b : Bool) → nat_eq (length unused) 1 ≡ b
    → ComesTo bytes (ended lines b)
ended_comes bytes lines names count unused come true e =
    whole-there bytes lines (Proving names count unused) [] come (eqb-true (length unused) 1 e) refl
ended_comes bytes lines names count unused come false e =
    bad-end bytes lines (Proving names count unused) [] (suc (length lines)) come (eqb-false (length unused) 1 e) refl refl

end_comes : (bytes : List ℕ) (lines : List Line) (stage : Stage) → Come Start bytes lines stage []
    → ComesTo bytes (at_end lines stage)
end_comes bytes lines Start come = bad-end bytes lines Start [] (suc (length lines)) come (λ whole. whole) refl refl
end_comes bytes lines (Binding names context) come =
    bad-end bytes lines (Binding names context) [] (suc (length lines)) come (λ whole. whole) refl refl
end_comes bytes lines (Proving names count unused) come =
    ended_comes bytes lines names count unused come (nat_eq (length unused) 1) refl

step_comes : (bytes : List ℕ) (next : List Line → Stage → List ℕ → Outcome)
    → ((lines : List Line) (stage : Stage) (rest : List ℕ) → Come Start bytes lines stage rest → StageOk stage
    → ComesTo bytes (next lines stage rest))
    → (lines : List Line) (stage : Stage) (rest : List ℕ) → Come Start bytes lines stage rest → StageOk stage
    → (rest ≡ [] → ⊥) → (read : Reads Line) → next_line stage rest ≡ read → ComesTo bytes (gone_on next lines stage read)
step_comes bytes next further lines stage rest come ok some (Got line behind) e =
    let more = come-read Start bytes lines stage rest line behind come ok e in
    further (lines ++ line ∷ []) (behind_line stage line) behind more.0 more.1
step_comes bytes next further lines stage rest come ok some Wrong e =
    bad-there bytes lines stage rest (suc (length lines)) come ok e some refl

pub read_comes : (bytes : List ℕ) (steps : ℕ) (lines : List Line) (stage : Stage) (rest : List ℕ)
    → Come Start bytes lines stage rest → StageOk stage → ComesTo bytes (read_from steps lines stage rest)
read_comes bytes zero lines stage rest come ok = tt
read_comes bytes (suc steps) lines stage [] come ok = end_comes bytes lines stage come
read_comes bytes (suc steps) lines stage (b ∷ bs) come ok =
    step_comes bytes (read_from steps) (read_comes bytes steps) lines stage (b ∷ bs) come ok (λ e. cc)
    (next_line stage (b ∷ bs)) refl

-- `unfolding line_computing` lets `refl` compute what is read
unfoldable pub line_computing : Unit {0}
unfolding next_line line_at statement_at bind_at name_at node_at numbered_node_at conclusion_at ends_with numbers_at numbers_of rule_at rule_of claim_at typing_claim_at below_at right_at set_claim_at first_at first_over term_at term_over plain_term_at word_term_at literal_of number_literal text_at text_of headed_at computed_at operated_at head_rule_at term_rule_at note_at variable_at type_at shape_at type_over plain_type_at arrow_type_at captured_at shape_over shape_rule_at leaf_at type_variable_at base_at set_at some_set_at set_of elements_of other_of element_of variable_of local_of same_number_at number_at exact_at word_at begun name_of number_of is_reserved reserved_words unicode_ident encode is_utf8 utf8_valid_len chars digits contains same_set same_element same_variable image flat_image from_list union retain remove insert placed element_order empty
line_computing = tt
