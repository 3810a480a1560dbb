-- Tokens as plain data: what each is, without how the program holds it.
use Rattle.std.specs.Prelude.{ℕ, ℤ, List, map}
use Rattle.std.specs.Rc.{rc_str_bytes}
use Rattle.std.specs.Str.{chars}
use Rattle.cc_base.specs.declared.place.Place.{Place}
use Rattle.cc_lex.specs.declared.token.Word.{Word}
use Rattle.cc_lex.specs.declared.token.Symbol.{Symbol}
use Rattle.cc_lex.specs.declared.token.TokenKind.{TokenKind}
use Rattle.cc_lex.specs.declared.token.TokenKind.TheVariants as kinds
use Rattle.cc_lex.specs.declared.token.Token.{Token}

-- what a token is: a name and a text are lists of code points, and a text is what stands between its quotes
pub data Lexeme : Type 0 where
  NameLexeme : (name : List ℕ) → Lexeme
  NumberLexeme : (number : ℤ) → Lexeme
  TextLexeme : (text : List ℕ) → Lexeme
  WordLexeme : (word : Word) → Lexeme
  SymbolLexeme : (symbol : Symbol) → Lexeme

-- a token with the place of its first character
pub record PlacedLexeme : Type 0 where
  pub lexeme : Lexeme
  pub at : Place

-- what the program holds of a token's kind
abbrev pub lexeme_of : TokenKind → Lexeme
lexeme_of (kinds.Name name) = NameLexeme name
lexeme_of (kinds.Number number) = NumberLexeme number
lexeme_of (kinds.Text text) = TextLexeme (chars (rc_str_bytes text))
lexeme_of (kinds.Word word) = WordLexeme word
lexeme_of (kinds.Symbol symbol) = SymbolLexeme symbol

-- what the program holds of a token, its span left out
abbrev pub placed_of : Token → PlacedLexeme
placed_of token = record { lexeme = lexeme_of token.kind; at = token.at }

-- the same of each token, in order
abbrev pub placed_all : List Token → List PlacedLexeme
placed_all tokens = map placed_of tokens
