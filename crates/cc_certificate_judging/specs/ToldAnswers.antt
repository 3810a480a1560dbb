-- What an answer of the program tells.
use Rattle.std.specs.Prelude.{◌≡◌, ℕ, Bool, true, false, List, ◌++◌, codes}
use Rattle.std.specs.Fmt.{decimal}
use Rattle.std.specs.String.{string_bytes}
use Rattle.cc_certificate_judging.specs.Answers.{Found, IsFound, found_text, is_valid}
use Rattle.cc_certificate_judging.specs.declared.answer.Answer.{Answer}
use Rattle.cc_certificate_judging.specs.declared.answer.Answer.TheVariants.{Valid, BadLine, BadNode}

-- the text of an answer, and whether it says that the certificate is valid
abbrev pub answer_text : Answer → List ℕ
answer_text (Valid text) = codes "valid " ++ string_bytes text
answer_text (BadLine line) = codes "bad line " ++ decimal line
answer_text (BadNode number) = codes "bad node " ++ decimal number

abbrev pub is_positive : Answer → Bool
is_positive (Valid text) = true
is_positive (BadLine line) = false
is_positive (BadNode number) = false

-- The answer tells what is found of the bytes.
pub record IsAnswered (bytes : List ℕ) (answer : Answer) : Type 0 where
  pub found : Found
  pub is_found : IsFound bytes found
  pub text : answer_text answer ≡ found_text found
  pub valid : is_positive answer ≡ is_valid found
