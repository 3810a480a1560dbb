-- Why a text is no module: what stands where it is refused, and what would go on there.
use Rattle.std.specs.Prelude.{◌≡◌, ◌⊎◌, ℕ, List, [], ◌∷◌, ◌++◌, take, Option, Some, None, IsUtf8}
use Rattle.std.specs.Str.{chars}
use Rattle.std.specs.Str.Lossy.{utf8_valid_len}
use Rattle.cc_base.specs.declared.code.Code.{Code}
use Rattle.cc_base.specs.declared.code.Code.TheVariants.{E01, E02, E03, E04}
use Rattle.cc_base.specs.declared.place.Place.{Place}
use Rattle.cc_lex.specs.Forms.{IsForm}
use Rattle.cc_lex.specs.Lexemes.{Lexeme, PlacedLexeme}
use Rattle.cc_lex.specs.Lexical.{IsBlank, BeginsNothing, BeginsTooGreat, SpannedLexeme, StopsAt, HasTokens}
use Rattle.cc_lex.specs.Lexical.{start, place_past, without_spans}
use Rattle.cc_grammar.specs.Reads.{BeginsLow, NoneGoesOn, OnlyHighGoOn, place_of}
use Rattle.cc_wanted.specs.declared.kind.Kind.{Kind}
use Rattle.cc_wanted.specs.WantedTokens.{AreWanted}

-- the characters begin a token or a comment: with some more they are one, or by themselves
abbrev pub MayBegin : List ℕ → Type 0
MayBegin cs = (more : List ℕ) × (IsForm (cs ++ more) ⊎ IsBlank (cs ++ more) [])

-- the characters begin one, and with more of what stands behind them they do not
pub record IsLongestStart (cs behind : List ℕ) : Type 0 where
  pub begins : MayBegin cs
  pub longest : (more rest : List ℕ) → behind ≡ more ++ rest → MayBegin (cs ++ more) → more ≡ []

-- what a token breaks at: a character, the end of the text, or that it is a number and too great
pub data Break : Type 0 where
  AtCharacter : (character : ℕ) → Break
  AtEnd : Break
  TooGreat : Break

-- No token begins at the front of the text: what might be one breaks here.
pub data BreaksAt (text : List ℕ) : Break → Type 0 where
  at_character : (front : List ℕ) (character : ℕ) (behind : List ℕ) → BeginsNothing text
      → text ≡ front ++ character ∷ behind → IsLongestStart front (character ∷ behind)
      → BreaksAt text (AtCharacter character)
  at_end : BeginsNothing text → IsLongestStart text [] → BreaksAt text AtEnd
  too_great : BeginsTooGreat text → BreaksAt text TooGreat

-- Why a text is no module: the byte of this offset is the first that is not UTF-8; a token breaks; this token, or the end,
-- is found where these kinds of tokens are wanted; or a tree is too high.
pub data TextReason : Type 0 where
  NotUtf8 : (byte : ℕ) → TextReason
  Broken : (break : Break) → TextReason
  Unwanted : (found : Option Lexeme) (wanted : List Kind) → TextReason
  TooHigh : TextReason

-- the code of a refusal for the reason
abbrev pub text_code : TextReason → Code
text_code (NotUtf8 byte) = E01
text_code (Broken break) = E02
text_code (Unwanted found wanted) = E03
text_code TooHigh = E04

-- the first token, if there is one
abbrev pub first_of : List PlacedLexeme → Option Lexeme
first_of [] = None
first_of (token ∷ tokens) = Some token.lexeme

-- The text is no module for this reason, at this place.
pub data HasTextReason (text : List ℕ) : TextReason → Place → Type 0 where
  is_not_utf8 : (IsUtf8 text → ⊥)
      → HasTextReason text (NotUtf8 (utf8_valid_len text)) (place_past start (chars (take (utf8_valid_len text) text)))
  is_broken : (before rest : List ℕ) (break : Break) → IsUtf8 text → chars text ≡ before ++ rest
      → StopsAt (chars text) (place_past start before) → BreaksAt rest break
      → HasTextReason text (Broken break) (place_past start before)
  is_unwanted : (tokens : List SpannedLexeme) (front rest : List PlacedLexeme) (wanted : List Kind)
      → HasTokens text tokens → without_spans tokens ≡ front ++ rest → BeginsLow front → NoneGoesOn front rest
      → AreWanted front wanted
      → HasTextReason text (Unwanted (first_of rest) wanted) (place_of rest (place_past start (chars text)))
  is_too_high : (tokens : List SpannedLexeme) (front rest : List PlacedLexeme)
      → HasTokens text tokens → without_spans tokens ≡ front ++ rest → BeginsLow front → OnlyHighGoOn front rest
      → HasTextReason text TooHigh (place_of rest (place_past start (chars text)))
