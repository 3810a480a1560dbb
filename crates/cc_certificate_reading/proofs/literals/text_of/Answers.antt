use Rattle.std.proofs.Common.{◌≡◌, IfOk, option_map, subst}
use Rattle.cc_base.specs.Literals.{literal_of}
use Rattle.cc_certificate_reading.proofs.TextWords.{text_of-none, text_of-utf8}
use Rattle.cc_certificate_reading.proofs.literals.text_of.Goals as goal

pub returns-in_default : goal.returns-in_default
returns-in_default c = text_of-none c.args.word.now c.in_default.ensures.cases.0

pub returns : goal.returns
returns c =
    let text = c.in-Ok.ensures.cases in
    subst (λ z. IfOk c.string_of.result (λ l. option_map literal_of l ≡ z))
    (text_of-utf8 c.args.word.now c.in-Ok.text.now text.0 text.1) c.string_of.ensures
