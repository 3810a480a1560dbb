-- Texts that are modules.
use Rattle.std.specs.Prelude.{◌≡◌, ℕ, List, [], ◌∷◌, ◌++◌, IsUtf8}
use Rattle.std.specs.Str.{chars}
use Rattle.cc_base.specs.declared.place.Place.{Place}
use Rattle.cc_lex.specs.Forms.{Spells}
use Rattle.cc_lex.specs.Lexemes.{Lexeme, PlacedLexeme}
use Rattle.cc_lex.specs.Lexical.{IsBlank, IsLongestForm, place_past, start}
use Rattle.cc_grammar.specs.Grammar.{IsModule, IsLow}
use Rattle.cc_grammar.specs.Syntax.{ModuleSyntax}

-- The characters from a place on are blanks and these tokens, each of which is spelled by the longest form where it
-- stands.
pub data AreTokens : Place → List ℕ → List PlacedLexeme → Type 0 where
  no_more : {at : Place} → AreTokens at [] []
  past_blank : {at : Place} {text : List ℕ} {tokens : List PlacedLexeme} (blank after : List ℕ)
      → text ≡ blank ++ after → IsBlank blank after → AreTokens (place_past at blank) after tokens
      → AreTokens at text tokens
  past_token : {at : Place} {text : List ℕ} {lexeme : Lexeme} {tokens : List PlacedLexeme} (form after : List ℕ)
      → text ≡ form ++ after → IsLongestForm form after → Spells lexeme form
      → AreTokens (place_past at form) after tokens
      → AreTokens at text (record { lexeme = lexeme; at = at } ∷ tokens)

-- The bytes are the text of a module with the tree, which is not too high.
abbrev pub IsModuleText : List ℕ → ModuleSyntax → Type 0
IsModuleText text tree =
    (tokens : List PlacedLexeme) × IsUtf8 text × AreTokens start (chars text) tokens × IsModule tokens tree × IsLow tree
