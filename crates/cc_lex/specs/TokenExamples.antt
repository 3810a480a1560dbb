-- Texts with their tokens, and texts in which a token is missing.
use Rattle.std.specs.Prelude.{ℕ, pos, List, [], ◌∷◌, ◌++◌, replicate, codes}
use Rattle.cc_base.specs.declared.place.Place.{Place}
use Rattle.cc_base.specs.declared.code.Code.TheVariants.{E01}
use Rattle.cc_lex.specs.declared.token.Symbol.TheVariants as symbols
use Rattle.cc_lex.specs.Lexemes.{Lexeme, NameLexeme, NumberLexeme, TextLexeme, SymbolLexeme}
use Rattle.cc_lex.specs.Lexical.{SpannedLexeme, IsText, StopsAt, IsRefusedAs}

-- the place in a line and a column
abbrev pub place : ℕ → ℕ → Place
place line col = record { line = line; col = col }

-- a token of the first line, with its column and its span
abbrev pub token : Lexeme → ℕ → ℕ → ℕ → SpannedLexeme
token lexeme col from to = record { placed = record { lexeme = lexeme; at = place 1 col }; from = from; to = to }

-- a string of so many letters
abbrev pub string_of : ℕ → List ℕ
string_of n = 34 ∷ replicate n 97 ++ 34 ∷ []

pub record WorkedTokens : Type 0 where
  -- digits and letters are two tokens
  pub digits_then_letters : IsText (codes "12ab") (
      token (NumberLexeme (pos 12)) 1 0 2 ∷ token (NameLexeme (codes "ab")) 3 2 4 ∷ [])
  -- `<:` is the longest symbol
  pub longest_symbol : IsText (codes "a<:b") (
      token (NameLexeme (codes "a")) 1 0 1 ∷ token (SymbolLexeme symbols.Below) 2 1 3
      ∷ token (NameLexeme (codes "b")) 4 3 4 ∷ [])
  pub two_characters : IsText (codes "== => -> = =") (
      token (SymbolLexeme symbols.DoubleEquals) 1 0 2 ∷ token (SymbolLexeme symbols.DoubleArrow) 4 3 5
      ∷ token (SymbolLexeme symbols.Arrow) 7 6 8 ∷ token (SymbolLexeme symbols.Equals) 10 9 10
      ∷ token (SymbolLexeme symbols.Equals) 12 11 12 ∷ [])
  pub call : IsText (codes "x.print()") (
      token (NameLexeme (codes "x")) 1 0 1 ∷ token (SymbolLexeme symbols.Dot) 2 1 2
      ∷ token (NameLexeme (codes "print")) 3 2 7 ∷ token (SymbolLexeme symbols.Open) 8 7 8
      ∷ token (SymbolLexeme symbols.Close) 9 8 9 ∷ [])
  -- a comment may end with the text
  pub comment_at_the_end : IsText (codes "a // b") (token (NameLexeme (codes "a")) 1 0 1 ∷ [])
  pub greatest : IsText (codes "9223372036854775807") (token (NumberLexeme (pos 9223372036854775807)) 1 0 19 ∷ [])
  -- é, which takes two bytes, and then _1
  pub beyond_ascii : IsText (233 ∷ codes "_1") (token (NameLexeme (233 ∷ codes "_1")) 1 0 4 ∷ [])
  pub longest_string : IsText (string_of 200) (token (TextLexeme (replicate 200 97)) 1 0 202 ∷ [])

pub record WorkedStops : Type 0 where
  -- a string that is not closed, and one that is too long, have no token at their quotes
  pub unclosed : StopsAt (codes "def a = \"x") (place 1 9)
  pub too_long : StopsAt (string_of 201) (place 1 1)
  -- no name begins with _
  pub underscore : StopsAt (codes "def _a") (place 1 5)
  -- a number that is too great has no token at its first digit
  pub too_great : StopsAt (codes "9223372036854775808") (place 1 1)
  pub much_too_great : StopsAt (codes "92233720368547758070") (place 1 1)
  -- bytes that are no UTF-8
  pub no_utf8 : IsRefusedAs (codes "def a = " ++ 255 ∷ []) E01 (place 1 9)
