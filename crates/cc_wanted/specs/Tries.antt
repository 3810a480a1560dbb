-- What a try tells, and what is tried with.
use Rattle.std.specs.Prelude.{◌≡◌, Bool, List}
use Rattle.cc_lex.specs.declared.token.Token.{Token}
use Rattle.cc_lex.specs.declared.token.Tokens.{Tokens}
use Rattle.cc_lex.specs.Lexemes.{placed_all}
use Rattle.cc_wanted.specs.Trying.{end_tried}

-- the answer is this, and the tokens and their end are as they were
pub record Tells (old new : Tokens) (answer told : Bool) : Type 0 where
  pub answered : answer ≡ told
  pub tokens : new.tokens.items ≡ old.tokens.items
  pub end : new.end ≡ old.end

-- tokens like those of the front, which end where tokens do that are tried
pub record IsCopied (front : List Token) (copy : Tokens) : Type 0 where
  pub tokens : placed_all copy.tokens.items ≡ placed_all front
  pub end : copy.end ≡ end_tried
