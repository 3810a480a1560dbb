use Rattle.std.proofs.Common.{◌∙◌, ◌++◌, encode_utf8, ap, sym}
use Rattle.std.specs.Str.{chars}
use Rattle.std.proofs.lemmas.List.{nil_from_length}
use Rattle.std.proofs.lemmas.Str.{chars_past_char, chars-nil}
use Rattle.cc_text_reasoning.proofs.texts.first_and_rest.Goals as goal

pub returns-in-Some : goal.returns-in-Some
returns-in-Some c = (
  chars_past_char c.args.text.now c.as_str.result.now c.in-Some.first c.utf8.text
      (sym c.chars-characters.ensures.rest ∙ c.in-Some.ensures.steps.0 ∙ ap (λ rest. encode_utf8 c.in-Some.first ++ rest) (sym c.as_str.ensures)),
  c.as_str.utf8,
)

pub returns-in-None : goal.returns-in-None
returns-in-None c = ap chars (sym c.chars-characters.ensures.rest ∙ nil_from_length _ c.in-None.ensures.steps.0.0) ∙ chars-nil
