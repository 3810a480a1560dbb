use Rattle.std.proofs.Common.{sym, arith}
use Rattle.cc_words.proofs.Numbers.{numeral-utf8, number_of-refused}
use Rattle.cc_words.proofs.words.number_of.Goals as goal

pub returns-in_default-clause-value : goal.returns-in_default-clause-value
returns-in_default-clause-value c = absurd (c.in_default.ensures.cases.0 (numeral-utf8 c.args.word.now (sym c.if-not-is_numeral.ensures)))

pub returns-in_default-parse-2-clause-value : goal.returns-in_default-parse-2-clause-value
returns-in_default-parse-2-clause-value c =
    number_of-refused c.args.most c.args.word.now c.in-Ok.text.now c.parse.result c.in_default-parse.field-0 (omega arith) (sym c.if-not-is_numeral.ensures)
    c.in-Ok.ensures.cases.0 c.parse.ensures.value.0 c.in_default-parse.is
