use Rattle.std.proofs.Common.{ap, sym, ◌==◌}
use Rattle.std.proofs.lemmas.Str.{chars_past_char}
use Rattle.cc_base.specs.Names.{first_passes}
use Rattle.cc_lex.proofs.TextFronts.{chars-none}
use Rattle.cc_lex.proofs.size.begins_with.Goals as goal

pub returns-in-Some : goal.returns-in-Some
returns-in-Some c =
    sym (ap (first_passes (λ d. d == c.args.character)) (chars_past_char c.args.text.now c.in-Some.field-0-1.now c.in-Some.first c.utf8.text c.in-Some.ensures))

pub returns-in-None : goal.returns-in-None
returns-in-None c = sym (ap (first_passes (λ d. d == c.args.character)) (chars-none c.args.text.now c.in-None.ensures))
