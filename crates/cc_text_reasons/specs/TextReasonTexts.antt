-- How the reason of a text that is no module is told, line by line.
use Rattle.std.specs.Prelude.{ℕ, ◌-◌, List, [], ◌∷◌, ◌++◌, length, replicate, true, codes, encode_utf8_all, Option, Some, None}
use Rattle.std.specs.Fmt.{decimal, signed_decimal, digits}
use Rattle.std.specs.List.{flat_map}
use Rattle.cc_lex.specs.Forms.{word_text, symbol_text}
use Rattle.cc_lex.specs.Lexemes.{Lexeme, NameLexeme, NumberLexeme, TextLexeme, WordLexeme, SymbolLexeme}
use Rattle.cc_print.specs.TermTexts.{quoted}
use Rattle.cc_text_reasons.specs.TextReasons.{Break, AtCharacter, AtEnd, TooGreat, TextReason, NotUtf8, Broken, Unwanted}
use Rattle.cc_text_reasons.specs.TextReasons.{TooHigh}
use Rattle.cc_wanted.specs.declared.kind.Kind.{Kind}
use Rattle.cc_wanted.specs.KindTexts.{kind_text}

-- a character by its code point, as Unicode writes it: in hexadecimal, with four digits at least
abbrev pub code_point_text : ℕ → List ℕ
code_point_text c = let hexadecimal = digits 16 true c in codes "U+" ++ replicate (4 - length hexadecimal) 48 ++ hexadecimal

-- what a token breaks at
abbrev pub break_text : Break → List ℕ
break_text (AtCharacter character) = codes "character " ++ code_point_text character
break_text AtEnd = codes "end of a text"
break_text TooGreat = codes "number too large"

-- A token as it is spelled, a number without zeros in front.
abbrev pub lexeme_text : Lexeme → List ℕ
lexeme_text (NameLexeme name) = encode_utf8_all name
lexeme_text (NumberLexeme number) = signed_decimal number
lexeme_text (TextLexeme text) = quoted text
lexeme_text (WordLexeme word) = word_text word
lexeme_text (SymbolLexeme symbol) = symbol_text symbol

-- the token that is found, or the end
abbrev pub found_text : Option Lexeme → List ℕ
found_text (Some lexeme) = lexeme_text lexeme
found_text None = codes "end"

-- the kinds, each behind a space
abbrev pub kinds_text : List Kind → List ℕ
kinds_text kinds = flat_map (λ kind. codes " " ++ kind_text kind) kinds

-- The lines of a reason. No tree of a module is higher than 100.
abbrev pub text_reason_lines : TextReason → List (List ℕ)
text_reason_lines (NotUtf8 byte) = (codes "byte " ++ decimal byte) ∷ []
text_reason_lines (Broken break) = break_text break ∷ []
text_reason_lines (Unwanted found wanted) = (codes "found " ++ found_text found) ∷ (codes "wanted" ++ kinds_text wanted) ∷ []
text_reason_lines TooHigh = codes "height 100" ∷ []
