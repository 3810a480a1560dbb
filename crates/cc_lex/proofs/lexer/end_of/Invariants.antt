use Rattle.std.proofs.Common.{◌≡◌, IsUtf8, chars}
use Rattle.std.specs.Str.Iter.{chars_rest}
use Rattle.cc_lex.specs.Lexical.{start, place_past}
use Rattle.cc_lex.proofs.lexer.end_of.Given as goal

-- what is left ends where all of the text does
abbrev pub invariant-loop-character : goal.invariant-loop-character
invariant-loop-character l = IsUtf8 (chars_rest l.character-iterator) × (place_past l.place (chars (chars_rest l.character-iterator)) ≡ place_past start (chars l.text))
