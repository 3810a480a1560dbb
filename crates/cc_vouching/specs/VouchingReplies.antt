-- What is written of an answer, and of all answers to a submission.
use Rattle.std.specs.Prelude.{◌≡◌, ℕ, Bool, true, false, List, [], ◌∷◌, ◌++◌, codes, encode_utf8_all}
use Rattle.std.specs.Fmt.{decimal}
use Rattle.std.specs.List.{flat_map, list_all}
use Rattle.cc_base.specs.Texts.{code_text, place_text}
use Rattle.cc_base.specs.declared.code.Code.{Code}
use Rattle.cc_base.specs.declared.place.Place.{Place}
use Rattle.cc_words.specs.Words.{pair_text}
use Rattle.cc_core.specs.Programs.{Definition}
use Rattle.cc_print.specs.TypeTexts.{type_text}
use Rattle.cc_mnf.specs.ElaboratedModules.{device_names}
use Rattle.cc_vouching.specs.Submissions.{ClaimedModule, Submission, IsSubmission}
use Rattle.cc_vouching.specs.VouchedDefinitions.{Reason, NoClaim, BadLine, BadNode, AnotherTerm, AnotherBind, Refused}
use Rattle.cc_vouching.specs.VouchedModules.{Answer, Vouches, RefusesText, RefusesDefinition, HaveAnswers}

-- a line is its text and a line feed, and one of a reply that is no head has two spaces before it
abbrev pub line : List ℕ → List ℕ
line text = text ++ 10 ∷ []

abbrev pub inner_line : List ℕ → List ℕ
inner_line text = line (codes "  " ++ text)

-- a refusal with its code and its place
abbrev pub refusal_text : Code → Place → List ℕ
refusal_text code at = codes "refused " ++ code_text code ++ codes " " ++ place_text at

abbrev pub reason_text : Reason → List ℕ
reason_text NoClaim = codes "no claim"
reason_text (BadLine number) = codes "bad line " ++ decimal number
reason_text (BadNode number) = codes "bad node " ++ decimal number
reason_text AnotherTerm = codes "another term"
reason_text (AnotherBind number) = codes "another bind " ++ decimal number
reason_text (Refused refusal) = refusal_text refusal.code refusal.at

-- a definition's name and the type that others see, where the devices have these names
abbrev pub signature_line : List (List ℕ) → Definition → List ℕ
signature_line names one = inner_line (encode_utf8_all one.name ++ codes ": " ++ type_text names 0 one.signature)

-- The reply to the module of the name: a head and a line for each definition, or one line with what is refused.
abbrev pub reply_text : List (List ℕ) → List ℕ → Answer → List ℕ
reply_text names name (Vouches definitions) =
    line (codes "module " ++ encode_utf8_all name) ++ flat_map (signature_line names) definitions
reply_text names name (RefusesText code at) =
    inner_line (encode_utf8_all name ++ codes ": " ++ refusal_text code at)
reply_text names name (RefusesDefinition definition reason) =
    inner_line (pair_text (name, definition) ++ codes ": " ++ reason_text reason)

-- the replies to modules, in order
abbrev pub replies_text : List (List ℕ) → List ClaimedModule → List Answer → List ℕ
replies_text names [] answers = []
replies_text names (first ∷ rest) [] = []
replies_text names (first ∷ rest) (answer ∷ answers) =
    reply_text names first.name answer ++ replies_text names rest answers

-- whether a module is vouched for
abbrev pub vouches : Answer → Bool
vouches (Vouches definitions) = true
vouches (RefusesText code at) = false
vouches (RefusesDefinition name reason) = false

-- What is written for the bytes of a submission, and whether each of its modules is vouched for.
pub record IsReplied (bytes : List ℕ) (written : List ℕ) (all_vouched : Bool) : Type 0 where
  pub submission : Submission
  pub is : IsSubmission bytes submission
  pub answers : List Answer
  pub answered : HaveAnswers submission.devices [] submission.modules answers
  pub text : written ≡ replies_text (device_names submission.devices) submission.modules answers
  pub all : all_vouched ≡ list_all vouches answers
