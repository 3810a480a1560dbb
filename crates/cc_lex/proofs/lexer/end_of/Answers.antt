use Rattle.std.proofs.Common.{sym, ap, ◌∙◌}
use Rattle.std.proofs.lemmas.Str.{IsUtf8-past_char, chars_past_char}
use Rattle.cc_lex.specs.Lexical.{place_past}
use Rattle.cc_lex.proofs.TextFronts.{chars-none}
use Rattle.cc_lex.proofs.lexer.end_of.Goals as goal

pub loop-character-preserved : goal.loop-character-preserved
loop-character-preserved c =
    let held = c.loop-character.invariant in
    let parts = c.in-Some.ensures.steps.0 in
    let first = chars_past_char _ _ c.in-Some.character held.0 parts in
    (IsUtf8-past_char _ _ c.in-Some.character held.0 parts, rw c.in_ok-place.ensures (ap (place_past c.loop-character.place) (sym first) ∙ held.1))

pub returns : goal.returns
returns c = ap (place_past c.loop-character.place) (sym (chars-none _ c.in-None.ensures.steps.0.0)) ∙ c.loop-character.invariant.1
