use Rattle.std.proofs.Common.{sym, ap, ◌∙◌}
use Rattle.std.proofs.lemmas.Str.{chars_past_char}
use Rattle.cc_base.specs.Names.{first_passes}
use Rattle.cc_lex.specs.Cutting.{is_in}
use Rattle.cc_lex.proofs.TextFronts.{chars-none}
use Rattle.cc_lex.proofs.size.past_one.Goals as goal

pub returns-in_default : goal.returns-in_default
returns-in_default c = ap (first_passes (is_in c.args.class)) (chars-none c.args.text.now c.in_default.ensures)

pub returns-then-is_in : goal.returns-then-is_in
returns-then-is_in c = (c.in-Some.first, c.in-Some.ensures, sym c.is_in.ensures ∙ c.if-is_in.true)

pub returns-else-is_in : goal.returns-else-is_in
returns-else-is_in c =
    ap (first_passes (is_in c.args.class)) (chars_past_char c.args.text.now c.in-Some.rest.now c.in-Some.first c.utf8.text c.in-Some.ensures) ∙ (sym c.is_in.ensures ∙ c.if-is_in.false)
