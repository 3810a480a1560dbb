use Rattle.std.proofs.Common.{ap}
use Rattle.std.specs.Str.{chars}
use Rattle.cc_lex.proofs.LexAnswers.{lexes-cut}
use Rattle.cc_lex.proofs.lexer.lex.Goals as goal

pub returns-in-Ok : goal.returns-in-Ok
returns-in-Ok c =
    lexes-cut c.args.bytes.now (chars c.in-Ok.text.now) c.cut.result c.in-Ok.ensures.cases.1 (ap chars c.in-Ok.ensures.cases.0) c.cut.ensures.found c.cut.ensures.end
