use Rattle.std.proofs.Common.{ap, sym, ◌∙◌}
use Rattle.std.proofs.lemmas.Str.{chars_past_char}
use Rattle.cc_lex.specs.Cutting.{long_symbol}
use Rattle.cc_lex.proofs.TextFronts.{chars-none}
use Rattle.cc_lex.proofs.form.long_symbol.Goals as goal

pub returns-in-Some : goal.returns-in-Some
returns-in-Some c =
    c.pair_symbol.ensures
    ∙ sym (ap (long_symbol c.args.first) (chars_past_char c.args.after.now c.in-Some.field-0-1.now c.in-Some.second c.utf8.after c.in-Some.ensures))

pub returns-in-None : goal.returns-in-None
returns-in-None c = sym (ap (long_symbol c.args.first) (chars-none c.args.after.now c.in-None.ensures))
