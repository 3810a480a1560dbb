-- The text that was tried has no characters.
use Rattle.std.proofs.Common.{subst, IfOk}
use Rattle.std.specs.Str.{chars}
use Rattle.cc_lex.specs.Lexemes.{TextLexeme, placed_all}
use Rattle.cc_wanted.specs.Trying.{goes_on}
use Rattle.cc_wanted.specs.Tries.{Tells}
use Rattle.cc_wanted.proofs.trying.goes_on_with_text.Goals as goal

pub returns : goal.returns
unfolding chars
returns c =
    subst (λ text. IfOk c.goes_on.result (λ yes. Tells c.args.tokens.now c.goes_on.new.tokens yes (goes_on (placed_all c.args.tokens.now.tokens.items) (TextLexeme (chars text)))))
    (c.in_ok-text.ensures.ok) c.goes_on.ensures
