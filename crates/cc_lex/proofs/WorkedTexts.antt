-- The worked texts, by computation.
use Rattle.std.proofs.Common.{◌≡◌, ℕ, false, List, [], ◌∷◌, ◌++◌, refl, codes}
use Rattle.std.specs.Str.{chars, IsUtf8, is_utf8}
use Rattle.std.specs.Str.Lossy.{utf8_valid_len}
use Rattle.std.proofs.lemmas.Str.{is_utf8-from_IsUtf8}
use Rattle.unicode_ident.proofs.Computing.{unicode_ident}
use Rattle.cc_base.specs.declared.place.Place.{Place}
use Rattle.cc_lex.specs.Lexical.{start, SpannedLexeme, ToTheEnd, UpTo, IsText, StopsAt}
use Rattle.cc_lex.specs.Cutting.{word_of, short_symbol, pair_symbol, front_of, blank_of, token_of, number_of, cut}
use Rattle.cc_lex.specs.TokenExamples.{place, string_of, WorkedTokens, WorkedStops}
use Rattle.cc_lex.proofs.CuttingLaws.{cut-is}
use Rattle.cc_lex.proofs.Booleans.{opposite}
use lib.Utf8.{encode}

text-of : (text : List ℕ) (ts : List SpannedLexeme) → cut 0 start 0 text ≡ record { tokens = ts; extent = ToTheEnd } → IsText text ts
text-of text ts e = let cutting = cut-is start 0 text in rw e at cutting

stop-of : (text : List ℕ) (p : Place) → (cut 0 start 0 text).extent ≡ UpTo p → StopsAt text p
stop-of text p e = ((cut 0 start 0 text).tokens, rw (← e) (cut-is start 0 text))

pub worked_tokens : WorkedTokens
unfolding word_of short_symbol pair_symbol front_of blank_of token_of number_of unicode_ident encode
worked_tokens = record {
  digits_then_letters = text-of (codes "12ab") _ refl;
  longest_symbol = text-of (codes "a<:b") _ refl;
  two_characters = text-of (codes "== => -> = =") _ refl;
  call = text-of (codes "x.print()") _ refl;
  comment_at_the_end = text-of (codes "a // b") _ refl;
  greatest = text-of (codes "9223372036854775807") _ refl;
  beyond_ascii = text-of (233 ∷ codes "_1") _ refl;
  longest_string = text-of (string_of 200) _ refl;
}

no_text : (bytes : List ℕ) → is_utf8 bytes ≡ false → ¬ IsUtf8 bytes
no_text bytes e u = opposite (is_utf8 bytes) (is_utf8-from_IsUtf8 bytes u) e

pub worked_stops : WorkedStops
unfolding word_of short_symbol pair_symbol front_of blank_of token_of number_of unicode_ident encode is_utf8 utf8_valid_len chars
worked_stops = record {
  unclosed = stop-of (codes "def a = \"x") (place 1 9) refl;
  too_long = stop-of (string_of 201) (place 1 1) refl;
  underscore = stop-of (codes "def _a") (place 1 5) refl;
  too_great = stop-of (codes "9223372036854775808") (place 1 1) refl;
  much_too_great = stop-of (codes "92233720368547758070") (place 1 1) refl;
  no_utf8 = (no_text (codes "def a = " ++ 255 ∷ []) refl, refl);
}
