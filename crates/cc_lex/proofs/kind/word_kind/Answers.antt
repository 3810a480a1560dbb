use Rattle.std.proofs.Common.{Err, refl, ap, ◌∙◌}
use Rattle.std.specs.Str.{chars}
use Rattle.cc_lex.specs.Lexemes.{NameLexeme}
use Rattle.cc_lex.specs.Cutting.{word_or_name}
use Rattle.cc_lex.proofs.WordsOrNames.{word_of-name}
use Rattle.cc_lex.proofs.kind.word_kind.Goals as goal

pub returns-in-Ok : goal.returns-in-Ok
returns-in-Ok c = rw (c.in-Ok.ensures.ok, word_of-name (chars c.args.text.now) c.in-Ok.ensures.named) refl

pub reserved_word-requires-clause-refused : goal.reserved_word-requires-clause-refused
reserved_word-requires-clause-refused c =
    c.read.ensures.refused.0 (c.in-Err-NotAName.is ∙ ap Err c.in-Err-NotAName.field-0-is)

pub returns-in-Err-NotAName : goal.returns-in-Err-NotAName
returns-in-Err-NotAName c = ap (word_or_name (chars c.args.text.now)) c.reserved_word.ensures
