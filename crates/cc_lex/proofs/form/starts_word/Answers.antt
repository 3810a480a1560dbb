use Rattle.cc_lex.proofs.AsciiWords.{ascii_starts}
use Rattle.cc_lex.proofs.form.starts_word.Goals as goal

pub returns-then-is_ascii : goal.returns-then-is_ascii
returns-then-is_ascii c = ascii_starts c.args.character c.is_ascii.result c.is_ascii_alphabetic.result c.is_ascii.ensures c.if-is_ascii.true c.is_ascii_alphabetic.ensures.value
