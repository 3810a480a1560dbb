use Rattle.std.proofs.Common.{◌≡◌, true, ap, ◌∙◌, sym}
use Rattle.std.specs.Str.{bytes_eq}
use Rattle.cc_lex.proofs.WordTexts.{word-spelled}
use Rattle.cc_lex.proofs.known.word_if_of.Goals as goal

pub returns-then-eq : goal.returns-then-eq
returns-then-eq c =
    word-spelled c.args.word c.args.letters.now
    (ap (λ bs. bytes_eq bs c.args.letters.now) (sym c.word_text.ensures) ∙ (sym c.eq.ensures ∙ c.if-eq.true))
