use Rattle.std.specs.Str.{chars}
use Rattle.cc_lex.specs.Cutting.{short_symbol}
use Rattle.cc_lex.proofs.Sizes.{symbol-size}
use Rattle.cc_lex.proofs.form.symbol_front.Goals as goal

pub returns-in-Some : goal.returns-in-Some
returns-in-Some c = symbol-size c.args.first (chars c.args.after.now) c.long_symbol.result (short_symbol c.args.first) c.in-Some.symbol c.long_symbol.ensures c.in-Some.is
