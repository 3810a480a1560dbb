-- What a list of tokens is: a module, or the place at which no module, or none that is low enough, goes on.
use Rattle.std.specs.Prelude.{◌≡◌, List, [], ◌∷◌, ◌++◌}
use Rattle.cc_base.specs.declared.place.Place.{Place}
use Rattle.cc_lex.specs.Lexemes.{PlacedLexeme}
use Rattle.cc_grammar.specs.Syntax.{ModuleSyntax}
use Rattle.cc_grammar.specs.Grammar.{IsModule, IsLow}

-- some module begins with these tokens, whatever the tokens behind them
abbrev pub Begins : List PlacedLexeme → Type 0
Begins front = (more : List PlacedLexeme) × (it : ModuleSyntax) × IsModule (front ++ more) it

-- some module without a tree that is too high begins with these tokens
abbrev pub BeginsLow : List PlacedLexeme → Type 0
BeginsLow front = (more : List PlacedLexeme) × (it : ModuleSyntax) × IsModule (front ++ more) it × IsLow it

-- No module, of any height, goes on behind the front with the next token; or, where there is none, the front is no
-- module.
abbrev pub NoneGoesOn : List PlacedLexeme → List PlacedLexeme → Type 0
NoneGoesOn front [] = (it : ModuleSyntax) → IsModule front it → ⊥
NoneGoesOn front (next ∷ after) = Begins (front ++ next ∷ []) → ⊥

-- Some module goes on behind the front with the next token, but each has a tree that is too high.
abbrev pub OnlyHighGoOn : List PlacedLexeme → List PlacedLexeme → Type 0
OnlyHighGoOn front [] = ⊥
OnlyHighGoOn front (next ∷ after) = Begins (front ++ next ∷ []) × (BeginsLow (front ++ next ∷ []) → ⊥)

-- the place of the first token, or of the end where there is none
abbrev pub place_of : List PlacedLexeme → Place → Place
place_of [] end = end
place_of (token ∷ tokens) end = token.at

-- what the tokens of a text are
pub data ModuleReading : Type 0 where
  TreeOf : (it : ModuleSyntax) → ModuleReading
  SyntaxError : (at : Place) → ModuleReading
  TooHigh : (at : Place) → ModuleReading

-- What the tokens of a text that ends there are. A refusal stands at the first token behind a front with which modules
-- without a tree that is too high begin: there no module goes on, or only such as are too high.
abbrev pub Reads : List PlacedLexeme → Place → ModuleReading → Type 0
Reads tokens end (TreeOf it) = IsModule tokens it × IsLow it
Reads tokens end (SyntaxError at) =
    (front : List PlacedLexeme) × (rest : List PlacedLexeme) × (tokens ≡ front ++ rest) × (at ≡ place_of rest end) ×
    BeginsLow front × NoneGoesOn front rest
Reads tokens end (TooHigh at) =
    (front : List PlacedLexeme) × (rest : List PlacedLexeme) × (tokens ≡ front ++ rest) × (at ≡ place_of rest end) ×
    BeginsLow front × OnlyHighGoOn front rest
