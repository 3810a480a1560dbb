-- Reasons of texts that are no modules, with the lines by which they are told.
use Rattle.std.specs.Prelude.{◌≡◌, pos, [], ◌∷◌, ◌++◌, Some, None, codes}
use Rattle.cc_lex.specs.declared.token.Word.TheVariants as words
use Rattle.cc_lex.specs.declared.token.Symbol.TheVariants as symbols
use Rattle.cc_lex.specs.Lexemes.{NameLexeme, NumberLexeme, TextLexeme, WordLexeme, SymbolLexeme}
use Rattle.cc_text_reasons.specs.TextReasons.{AtCharacter, AtEnd, TooGreat, NotUtf8, Broken, Unwanted, TooHigh}
use Rattle.cc_text_reasons.specs.TextReasonTexts.{text_reason_lines}
use Rattle.cc_wanted.specs.declared.kind.Kind.TheVariants as kinds

pub record WorkedTextReasonLines : Type 0 where
  -- bytes are counted from 0
  pub first_byte : text_reason_lines (NotUtf8 0) ≡ codes "byte 0" ∷ []
  pub later_byte : text_reason_lines (NotUtf8 65535) ≡ codes "byte 65535" ∷ []
  -- a character has four digits at least, in upper case, and six at most
  pub null : text_reason_lines (Broken (AtCharacter 0)) ≡ codes "character U+0000" ∷ []
  pub line_feed : text_reason_lines (Broken (AtCharacter 10)) ≡ codes "character U+000A" ∷ []
  pub at_sign : text_reason_lines (Broken (AtCharacter 64)) ≡ codes "character U+0040" ∷ []
  pub letter : text_reason_lines (Broken (AtCharacter 955)) ≡ codes "character U+03BB" ∷ []
  pub currency : text_reason_lines (Broken (AtCharacter 8364)) ≡ codes "character U+20AC" ∷ []
  pub emoji : text_reason_lines (Broken (AtCharacter 128512)) ≡ codes "character U+1F600" ∷ []
  pub greatest : text_reason_lines (Broken (AtCharacter 1114111)) ≡ codes "character U+10FFFF" ∷ []
  -- or nothing stands there
  pub end_of_text : text_reason_lines (Broken AtEnd) ≡ codes "end of a text" ∷ []
  pub too_great : text_reason_lines (Broken TooGreat) ≡ codes "number too large" ∷ []
  -- a token that is found is told as it is spelled
  pub found_word : text_reason_lines (Unwanted (Some (WordLexeme words.IntType)) (kinds.Name ∷ []))
      ≡ codes "found Int" ∷ codes "wanted NAME" ∷ []
  pub found_symbol : text_reason_lines
      (Unwanted (Some (SymbolLexeme symbols.DoubleArrow)) (kinds.Symbol symbols.Colon ∷ kinds.Symbol symbols.Equals ∷ []))
      ≡ codes "found =>" ∷ codes "wanted : =" ∷ []
  pub found_name : text_reason_lines (Unwanted (Some (NameLexeme (codes "x1"))) (kinds.Symbol symbols.Dot ∷ []))
      ≡ codes "found x1" ∷ codes "wanted ." ∷ []
  -- a name of letters past ASCII in UTF-8
  pub found_letter : text_reason_lines (Unwanted (Some (NameLexeme (955 ∷ []))) (kinds.Symbol symbols.Dot ∷ []))
      ≡ (codes "found " ++ 206 ∷ 187 ∷ []) ∷ codes "wanted ." ∷ []
  pub found_number : text_reason_lines (Unwanted (Some (NumberLexeme (pos 42))) (kinds.Text ∷ kinds.Word words.Cap ∷ []))
      ≡ codes "found 42" ∷ codes "wanted TEXT cap" ∷ []
  pub found_text : text_reason_lines (Unwanted (Some (TextLexeme (codes "a b"))) (kinds.Number ∷ []))
      ≡ (codes "found " ++ 34 ∷ codes "a b" ++ 34 ∷ []) ∷ codes "wanted NUMBER" ∷ []
  pub found_end : text_reason_lines (Unwanted None (kinds.Word words.Import ∷ kinds.Word words.Def ∷ []))
      ≡ codes "found end" ∷ codes "wanted import def" ∷ []
  pub height : text_reason_lines TooHigh ≡ codes "height 100" ∷ []
