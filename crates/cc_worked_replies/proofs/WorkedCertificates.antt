-- Replies to certificates, by what is found of them.
use Rattle.std.proofs.Common.{◌≡◌, ℕ, codes, Bool, List, [], ◌∷◌, ◌++◌, refl, sym, ap, ◌∙◌}
use Rattle.std.specs.Prelude.{not}
use Rattle.std.proofs.lemmas.List.{append-nil}
use Rattle.cc_certificate_judging.specs.AnswerExamples.{Finds}
use Rattle.cc_certificate_judging.specs.Answers.{Found, is_valid}
use Rattle.cc_replies.specs.ReplyTexts.{Verified, line, inner_line}
use Rattle.cc_worked_replies.specs.CertificateExamples.{VerifiesWith}

-- what is found is told
pub found_is_told : (lines : List (List ℕ)) (found : Found) (written : List ℕ) (refused : Bool) → not (is_valid found) ≡ refused
    → Finds lines found written → VerifiesWith lines (codes "  " ++ written) refused
found_is_told lines found written refused tells finds devices state = (
  Verified found,
  (found, finds.0, refl),
  ap (λ t. line (codes "verify") ++ inner_line t) finds.1 ∙ ap (λ t. line (codes "verify") ++ t) (sym (append-nil (inner_line written))),
  tells,
)
