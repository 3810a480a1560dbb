-- What the text of a module is: a tree, or no module, which is refused at a place.
use Rattle.std.specs.Prelude.{◌≡◌, ◌↔◌, ℕ, List, Option, Some, None, take, if◌then◌else◌}
use Rattle.std.specs.Str.{chars, is_utf8}
use Rattle.std.specs.Str.Lossy.{utf8_valid_len}
use Rattle.cc_base.specs.declared.code.Code.{Code}
use Rattle.cc_base.specs.declared.code.Code.TheVariants.{E01, E02, E03, E04}
use Rattle.cc_base.specs.declared.code.Diag.{Diag}
use Rattle.cc_base.specs.declared.place.Place.{Place}
use Rattle.cc_lex.specs.Lexical.{SpannedLexeme, Extent, ToTheEnd, UpTo, start, place_past, without_spans, HasTokens}
use Rattle.cc_lex.specs.Lexical.{IsRefused}
use Rattle.cc_lex.specs.Cutting.{Cutting, cut}
use Rattle.cc_grammar.specs.Syntax.{ImportSyntax, ModuleSyntax}
use Rattle.cc_grammar.specs.Reads.{ModuleReading, TreeOf, SyntaxError, TooHigh, Reads}
use Rattle.cc_grammar.specs.Reading.{reading_of}

-- a text is a module with a tree, or no module, with the code and the place of that
pub data TextReading : Type 0 where
  IsTree : (tree : ModuleSyntax) → TextReading
  IsNoModule : (code : Code) (at : Place) → TextReading

-- what a text is whose tokens read so
abbrev pub of_tokens : ModuleReading → TextReading
of_tokens (TreeOf tree) = IsTree tree
of_tokens (SyntaxError at) = IsNoModule E03 at
of_tokens (TooHigh at) = IsNoModule E04 at

-- What a text is: one that has no tokens is refused as such, and one that has is what its tokens read as.
pub data HasReading (text : List ℕ) : TextReading → Type 0 where
  has_no_tokens : (diag : Diag) → IsRefused text diag → HasReading text (IsNoModule diag.code diag.place)
  has_tokens : (tokens : List SpannedLexeme) (reading : ModuleReading) → HasTokens text tokens
      → Reads (without_spans tokens) (place_past start (chars text)) reading → HasReading text (of_tokens reading)

-- what a text is that has these tokens so far
abbrev pub of_extent : Place → List SpannedLexeme → Extent → TextReading
of_extent end tokens (UpTo place) = IsNoModule E02 place
of_extent end tokens ToTheEnd = of_tokens (reading_of (without_spans tokens) end)

abbrev pub of_cutting : Place → Cutting → TextReading
of_cutting end cutting = of_extent end cutting.tokens cutting.extent

-- what a text is, as a function
unfoldable pub reading_of_text : List ℕ → TextReading
reading_of_text text =
    if is_utf8 text
    then of_cutting (place_past start (chars text)) (cut 0 start 0 (chars text))
    else IsNoModule E01 (place_past start (chars (take (utf8_valid_len text) text)))

-- a text is one thing, which this function gives
abbrev pub ATextHasOneReading : Type 0
ATextHasOneReading = (text : List ℕ) (reading : TextReading) → HasReading text reading ↔ (reading ≡ reading_of_text text)

-- the imports of a text that is a module
abbrev pub imports_in : TextReading → Option (List ImportSyntax)
imports_in (IsTree tree) = Some tree.imports
imports_in (IsNoModule code at) = None

-- the imports that a text has, in order, where it is a module
abbrev pub imports_of : List ℕ → Option (List ImportSyntax)
imports_of text = imports_in (reading_of_text text)
