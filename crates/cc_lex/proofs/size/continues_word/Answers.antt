use Rattle.cc_lex.proofs.AsciiWords.{ascii_continues}
use Rattle.cc_lex.proofs.size.continues_word.Goals as goal

pub returns-then-is_ascii : goal.returns-then-is_ascii
returns-then-is_ascii c = ascii_continues c.args.character c.is_ascii.result c.is_letter_or_digit.result c.is_ascii.ensures c.if-is_ascii.true c.is_letter_or_digit.ensures
