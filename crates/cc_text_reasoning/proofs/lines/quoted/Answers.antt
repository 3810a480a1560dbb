use Rattle.std.proofs.Common.{◌∙◌, ◌++◌, ◌∷◌, [], ap, sym}
use Rattle.std.proofs.lemmas.Result.{IfOk-weaker}
use Rattle.std.proofs.lemmas.Str.{encodes-chars}
use Rattle.cc_text_reasoning.proofs.lines.quoted.Goals as goal

pub returns : goal.returns
returns c =
    IfOk-weaker c.format.result _ _ (λ s h. h ∙ ap (λ text. 34 ∷ (text ++ 34 ∷ [])) (sym (encodes-chars c.args.text.now c.utf8.text))) c.format.ensures.ok
