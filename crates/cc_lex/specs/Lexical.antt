-- How a text, as a list of code points, is cut: white space, comments, and tokens from the longest forms.
use Rattle.std.specs.Prelude.{◌≡◌, ℕ, ◌+◌, ◌<◌, ◌||◌, ◌==◌, not, Bool, List, [], ◌∷◌, ◌++◌, map, length, take, codes}
use Rattle.std.specs.Prelude.{IsTrue, Result, Ok, Err, IsUtf8, encode_utf8_all, if◌then◌else◌}
use Rattle.std.specs.List.{list_all}
use Rattle.std.specs.Str.{chars}
use Rattle.std.specs.Str.Lossy.{utf8_valid_len}
use Rattle.cc_base.specs.declared.place.Place.{Place}
use Rattle.cc_base.specs.declared.code.Code.{Code}
use Rattle.cc_base.specs.declared.code.Code.TheVariants.{E01, E02}
use Rattle.cc_base.specs.declared.code.Diag.{Diag}
use Rattle.cc_lex.specs.declared.token.Token.{Token}
use Rattle.cc_lex.specs.declared.token.Tokens.{Tokens}
use Rattle.cc_lex.specs.declared.error.LexError.{LexError}
use Rattle.cc_lex.specs.declared.error.LexError.TheVariants.{Refused, NoMemory}
use Rattle.cc_lex.specs.Lexemes.{Lexeme, PlacedLexeme, placed_of}
use Rattle.cc_lex.specs.Forms.{IsForm, IsTooGreat, Spells}

-- places and offsets

-- the place after a character: a line ends after its line feed
abbrev pub place_after : Place → ℕ → Place
place_after p c = if c == 10 then record { line = p.line + 1; col = 1 } else record { line = p.line; col = p.col + 1 }

-- the place after these characters
abbrev pub place_past : Place → List ℕ → Place
place_past p [] = p
place_past p (c ∷ cs) = place_past (place_after p c) cs

-- where a text begins
abbrev pub start : Place
start = record { line = 1; col = 1 }

-- how many bytes the characters take
abbrev pub byte_count : List ℕ → ℕ
byte_count cs = length (encode_utf8_all cs)

-- what stands between tokens

-- a space, a tab, a carriage return or a line feed
abbrev pub is_white : ℕ → Bool
is_white c = c == 32 || c == 9 || c == 13 || c == 10

-- the text is empty or begins with a line feed
abbrev pub EndsTheLine : List ℕ → Type 0
EndsTheLine [] = Unit {0}
EndsTheLine (c ∷ cs) = c ≡ 10

-- a comment with what comes after it: two slashes, then all characters up to the end of the line
pub record IsComment (cs after : List ℕ) : Type 0 where
  pub body : List ℕ
  pub begins : cs ≡ codes "//" ++ body
  pub in_line : IsTrue (list_all (λ c. not (c == 10)) body)
  pub whole : EndsTheLine after

-- one character of white space, or a comment
pub data IsBlank (cs after : List ℕ) : Type 0 where
  white_space : (c : ℕ) → IsTrue (is_white c) → cs ≡ c ∷ [] → IsBlank cs after
  a_comment : IsComment cs after → IsBlank cs after

-- tokens

-- a token with its place, and the bytes that it spans: from `from` up to and without `to`
pub record SpannedLexeme : Type 0 where
  pub placed : PlacedLexeme
  pub from : ℕ
  pub to : ℕ

-- what the program holds of a token
abbrev pub spanned_of : Token → SpannedLexeme
spanned_of token = record { placed = placed_of token; from = token.start; to = token.end }

abbrev pub spanned_all : Tokens → List SpannedLexeme
spanned_all tokens = map spanned_of tokens.tokens.items

-- the same without the spans
abbrev pub without_spans : List SpannedLexeme → List PlacedLexeme
without_spans ts = map (λ t. t.placed) ts

-- the token that the characters spell at a place and an offset
abbrev pub spelled_at : Place → ℕ → List ℕ → Lexeme → SpannedLexeme
spelled_at p o cs lexeme = record { placed = record { lexeme = lexeme; at = p }; from = o; to = o + byte_count cs }

-- The characters are of some form, and with more of what comes after they are of none. Longest is said of forms and not
-- of tokens, or a number that is too great would be cut in two.
pub record IsLongestForm (cs after : List ℕ) : Type 0 where
  pub form : IsForm cs
  pub longest : (more rest : List ℕ) → after ≡ more ++ rest → IsForm (cs ++ more) → more ≡ []

-- there is a text, and neither white space, nor a comment, nor a form stands at its front
pub record BeginsNothing (text : List ℕ) : Type 0 where
  pub some : 0 < length text
  pub no_blank : (cs after : List ℕ) → text ≡ cs ++ after → IsBlank cs after → ⊥
  pub no_form : (cs after : List ℕ) → text ≡ cs ++ after → IsForm cs → ⊥

-- the longest form at the front of the text is a number that is too great
pub record BeginsTooGreat (text : List ℕ) : Type 0 where
  pub cs : List ℕ
  pub after : List ℕ
  pub front : text ≡ cs ++ after
  pub longest : IsLongestForm cs after
  pub too_great : IsTooGreat cs

-- how far the tokens of a text go: to its end, or to a place at which none begins
pub data Extent : Type 0 where
  ToTheEnd : Extent
  UpTo : (place : Place) → Extent

-- The text at this place and offset has these tokens, which go so far: it is blanks and tokens, and each token is
-- spelled by the longest form at its place.
pub data IsCut : Place → ℕ → List ℕ → List SpannedLexeme → Extent → Type 0 where
  at_end : {p : Place} {o : ℕ} → IsCut p o [] [] ToTheEnd
  at_nothing : {p : Place} {o : ℕ} {text : List ℕ} → BeginsNothing text → IsCut p o text [] (UpTo p)
  at_too_great : {p : Place} {o : ℕ} {text : List ℕ} → BeginsTooGreat text → IsCut p o text [] (UpTo p)
  past_blank :
      {p : Place} {o : ℕ} {text : List ℕ} {ts : List SpannedLexeme} {extent : Extent} (cs after : List ℕ)
      → text ≡ cs ++ after → IsBlank cs after
      → IsCut (place_past p cs) (o + byte_count cs) after ts extent
      → IsCut p o text ts extent
  past_token :
      {p : Place} {o : ℕ} {text : List ℕ} {lexeme : Lexeme} {ts : List SpannedLexeme} {extent : Extent}
      (cs after : List ℕ)
      → text ≡ cs ++ after → IsLongestForm cs after → Spells lexeme cs
      → IsCut (place_past p cs) (o + byte_count cs) after ts extent
      → IsCut p o text (spelled_at p o cs lexeme ∷ ts) extent

-- all of the text is blanks and these tokens
abbrev pub IsText : List ℕ → List SpannedLexeme → Type 0
IsText text ts = IsCut start 0 text ts ToTheEnd

-- no token begins at this place of the text, and all before it is blanks and tokens
abbrev pub StopsAt : List ℕ → Place → Type 0
StopsAt text place = (ts : List SpannedLexeme) × IsCut start 0 text ts (UpTo place)

-- answers

-- the bytes are UTF-8, and their text has these tokens
abbrev pub HasTokens : List ℕ → List SpannedLexeme → Type 0
HasTokens bytes ts = IsUtf8 bytes × IsText (chars bytes) ts

-- The bytes are refused with this code at this place: bytes that are no UTF-8 just past the longest front that is, and
-- others where no token begins.
abbrev pub IsRefusedAs : List ℕ → Code → Place → Type 0
IsRefusedAs bytes E01 place = (¬ IsUtf8 bytes) × (place ≡ place_past start (chars (take (utf8_valid_len bytes) bytes)))
IsRefusedAs bytes E02 place = IsUtf8 bytes × StopsAt (chars bytes) place
IsRefusedAs bytes _ place = ⊥

abbrev pub IsRefused : List ℕ → Diag → Type 0
IsRefused bytes diag = IsRefusedAs bytes diag.code diag.place

-- The answer is right for the bytes. Of an answer for want of memory nothing is said.
abbrev pub Lexes : List ℕ → Result Tokens LexError → Type 0
Lexes bytes (Ok tokens) = HasTokens bytes (spanned_all tokens) × (tokens.end ≡ place_past start (chars bytes))
Lexes bytes (Err (Refused diag)) = IsRefused bytes diag
Lexes bytes (Err NoMemory) = Unit {0}
