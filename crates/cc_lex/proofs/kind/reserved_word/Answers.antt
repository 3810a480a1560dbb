use Rattle.std.proofs.Common.{None, sym, ◌∙◌}
use Rattle.cc_lex.proofs.WordsOrNames.{refused_name}
use Rattle.cc_lex.proofs.kind.reserved_word.Goals as goal

pub unreachable-requires : goal.unreachable-requires
unreachable-requires c =
    refused_name _ None (sym c.in-None.is ∙ c.word_of.ensures) (λ word h. cc) c.requires.word c.requires.refused

pub returns : goal.returns
returns c = sym c.in-Some.is ∙ c.word_of.ensures
