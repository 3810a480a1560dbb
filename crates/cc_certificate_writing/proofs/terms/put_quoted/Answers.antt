use Rattle.std.proofs.Common.{◌≡◌, ℕ, List, [], ◌∷◌, ◌++◌, append_assoc, sym, ap, ◌∙◌}
use Rattle.std.specs.Str.{IsUtf8, chars}
use Rattle.std.proofs.lemmas.Result.{on_ok_weaker}
use Rattle.std.proofs.lemmas.Str.{encodes-chars}
use Rattle.cc_print.specs.TermTexts.{quoted}
use Rattle.cc_certificate_writing.proofs.terms.put_quoted.Goals as goal

in_quotes : (text old front both new : List ℕ) → IsUtf8 text → front ≡ old ++ 34 ∷ [] → both ≡ front ++ text
    → new ≡ both ++ 34 ∷ [] → new ≡ old ++ quoted (chars text)
in_quotes text old front both new utf8 first second third =
    third ∙ ap (λ o. o ++ 34 ∷ []) (second ∙ ap (λ o. o ++ text) first)
    ∙ append_assoc (old ++ 34 ∷ []) text (34 ∷ []) ∙ append_assoc old (34 ∷ []) (text ++ 34 ∷ [])
    ∙ ap (λ t. old ++ (34 ∷ (t ++ 34 ∷ []))) (sym (encodes-chars text utf8))

pub returns : goal.returns
returns c =
    on_ok_weaker c.put-3.result
    (in_quotes c.args.text.now _ _ _ _ c.utf8.text c.in_ok-put.ensures c.in_ok-put-2.ensures)
    c.put-3.ensures
