use Rattle.cc_lex.specs.Lexemes.{placed_all}
use Rattle.cc_text_reasoning.proofs.TokenLaws.{refused_there, have_high}
use Rattle.cc_text_reasoning.proofs.fronts.reason_of_refused_tokens.Goals as goal

pub unwanted-requires : goal.unwanted-requires
unwanted-requires c =
    record {
      rise = c.requires.rise;
      refused = refused_there (placed_all c.args.tokens.tokens.items) c.args.tokens.end c.args.refusal c.requires.refused c.in-E03.is;
    }

pub returns-in_default : goal.returns-in_default
returns-in_default c =
    have_high (placed_all c.args.tokens.tokens.items) c.args.tokens.end c.args.refusal c.requires.refused c.in_default.not-E03
