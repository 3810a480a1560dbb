-- The tokens of a text, found from its front on, as the program goes. `Forms` and `Lexical` say what they are.
use Rattle.std.specs.Prelude.{ℕ, zero, suc, ◌+◌, ◌-◌, ◌==◌, ◌&&◌, ◌||◌, not, nat_le, ℤ, pos, List, [], ◌∷◌, length, take}
use Rattle.std.specs.Prelude.{drop, Option, Some, None, find, option_map, Result, Ok, Err, encode_utf8, ◌≡◌}
use Rattle.std.specs.Prelude.{if◌then◌else◌, ◌++◌, Bool, false, IsTrue}
use Rattle.std.specs.Str.{bytes_eq, chars}
use Rattle.std.specs.Str.Parse.{digits_value}
use Rattle.std.specs.Char.{is_ascii_digit}
use Rattle.std.specs.List.{prefix_len, list_all}
use Rattle.unicode_ident.specs.Ident.{is_xid_start, is_xid_continue}
use Rattle.cc_base.specs.declared.place.Place.{Place}
use Rattle.cc_base.specs.declared.code.Code.TheVariants.{E02}
use Rattle.cc_base.specs.declared.code.Diag.{Diag}
use Rattle.cc_base.specs.Names.{first_passes}
use Rattle.cc_lex.specs.declared.token.Word.{Word}
use Rattle.cc_lex.specs.declared.token.Word.TheVariants as words
use Rattle.cc_lex.specs.declared.token.Symbol.{Symbol}
use Rattle.cc_lex.specs.declared.token.Symbol.TheVariants as symbols
use Rattle.cc_lex.specs.declared.form.Form.{Form}
use Rattle.cc_lex.specs.declared.form.Form.TheVariants as forms
use Rattle.cc_lex.specs.declared.size.Size.{Size}
use Rattle.cc_lex.specs.declared.size.Class.{Class}
use Rattle.cc_lex.specs.declared.size.Class.TheVariants as classes
use Rattle.cc_lex.specs.declared.token.Token.{Token}
use Rattle.cc_lex.specs.declared.token.Tokens.{Tokens}
use Rattle.cc_lex.specs.declared.error.LexError.{LexError}
use Rattle.cc_lex.specs.declared.error.LexError.TheVariants.{Refused, NoMemory}
use Rattle.cc_lex.specs.Lexemes.{Lexeme, NameLexeme, NumberLexeme, TextLexeme, WordLexeme, SymbolLexeme}
use Rattle.cc_lex.specs.Forms.{word_text, stands_in_string, greatest_number}
use Rattle.cc_lex.specs.Lexical.{place_after, byte_count, is_white, SpannedLexeme, spanned_of, spanned_all, spelled_at}
use Rattle.cc_lex.specs.Lexical.{Extent, ToTheEnd, UpTo}

-- all reserved words
abbrev pub all_words : List Word
all_words =
    words.Import ∷ words.Def ∷ words.Rec ∷ words.Fun ∷ words.Val ∷
    words.If ∷ words.Then ∷ words.Else ∷ words.Box ∷ words.Unbox ∷
    words.Boundary ∷ words.Exit ∷ words.Repeat ∷ words.True ∷ words.False ∷
    words.Unit ∷ words.Cap ∷ words.UnitType ∷ words.BoolType ∷ words.IntType ∷
    words.StrType ∷ words.AnyType ∷ words.ConsoleType ∷ words.FileType ∷ words.CounterType ∷
    words.ExitType ∷ words.BoxType ∷
    []

-- the reserved word with these letters
unfoldable pub word_of : List ℕ → Option Word
word_of cs = find (λ word. bytes_eq (word_text word) cs) all_words

-- the symbol that a character is by itself
unfoldable pub short_symbol : ℕ → Option Symbol
short_symbol c =
    if c == 40 then Some symbols.Open
    else if c == 41 then Some symbols.Close
    else if c == 91 then Some symbols.OpenBracket
    else if c == 93 then Some symbols.CloseBracket
    else if c == 123 then Some symbols.OpenBrace
    else if c == 125 then Some symbols.CloseBrace
    else if c == 44 then Some symbols.Comma
    else if c == 58 then Some symbols.Colon
    else if c == 59 then Some symbols.Semicolon
    else if c == 46 then Some symbols.Dot
    else if c == 94 then Some symbols.Caret
    else if c == 63 then Some symbols.Question
    else if c == 61 then Some symbols.Equals
    else if c == 60 then Some symbols.Less
    else if c == 43 then Some symbols.Plus
    else if c == 45 then Some symbols.Minus
    else if c == 42 then Some symbols.Star
    else None

-- the symbol that two characters are
unfoldable pub pair_symbol : ℕ → ℕ → Option Symbol
pair_symbol c d =
    if c == 61 then (if d == 61 then Some symbols.DoubleEquals else if d == 62 then Some symbols.DoubleArrow else None)
    else if c == 45 then (if d == 62 then Some symbols.Arrow else None)
    else if c == 60 then (if d == 58 then Some symbols.Below else None)
    else None

-- the symbol that a character is with the next one
abbrev pub long_symbol : ℕ → List ℕ → Option Symbol
long_symbol c [] = None
long_symbol c (d ∷ cs) = pair_symbol c d

-- a form at the front of a text, with the count of its characters behind the first
abbrev pub Front : Type 0
Front = Form × ℕ

-- the longer of the two symbols
abbrev pub symbol_front : Option Symbol → Option Symbol → Option Front
symbol_front (Some symbol) short = Some (forms.Symbol symbol, 1)
symbol_front None (Some symbol) = Some (forms.Symbol symbol, 0)
symbol_front None None = None

-- the string behind its first quote, if it is closed
abbrev pub string_front : List ℕ → Option Front
string_front cs =
    let n = prefix_len stands_in_string cs in
    if nat_le n 200 && first_passes (λ c. c == 34) (drop n cs) then Some (forms.Text, n + 1) else None

-- the longest form at the front of c ∷ cs
unfoldable pub front_of : ℕ → List ℕ → Option Front
front_of c cs =
    if is_ascii_digit c then Some (forms.Digits, prefix_len is_ascii_digit cs)
    else if is_xid_start c then Some (forms.Word, prefix_len is_xid_continue cs)
    else if c == 34 then string_front cs
    else symbol_front (long_symbol c cs) (short_symbol c)

-- the count of characters behind the first of the white space or comment at the front of c ∷ cs
unfoldable pub blank_of : ℕ → List ℕ → Option ℕ
blank_of c cs =
    if is_white c then Some 0
    else if c == 47 && first_passes (λ d. d == 47) cs then Some (prefix_len (λ d. not (d == 10)) cs)
    else None

-- what stands between the quotes
abbrev pub inside : List ℕ → List ℕ
inside cs = take (length cs - 2) (drop 1 cs)

-- the number that digits write, but for one that is too great
unfoldable pub number_of : List ℕ → Option ℤ
number_of cs = if nat_le (digits_value 10 cs) greatest_number then Some (pos (digits_value 10 cs)) else None

-- the word or the name with these letters
abbrev pub word_or_name : List ℕ → Option Word → Lexeme
word_or_name cs (Some word) = WordLexeme word
word_or_name cs None = NameLexeme cs

-- what characters of this form spell, but for a number that is too great
abbrev pub spelled_by : Form → List ℕ → Option Lexeme
spelled_by forms.Digits cs = option_map NumberLexeme (number_of cs)
spelled_by forms.Word cs = Some (word_or_name cs (word_of cs))
spelled_by forms.Text cs = Some (TextLexeme (inside cs))
spelled_by (forms.Symbol symbol) cs = Some (SymbolLexeme symbol)

-- the token that a form spells, with the count of its characters behind the first
abbrev pub spelled_front : Place → ℕ → ℕ → List ℕ → Option Front → Option (SpannedLexeme × ℕ)
spelled_front p o c cs None = None
spelled_front p o c cs (Some front) =
    let ds = c ∷ take front.1 cs in
    option_map (λ lexeme. (spelled_at p o ds lexeme, front.1)) (spelled_by front.0 ds)

-- the token at the front of c ∷ cs, with the count of its characters behind the first
unfoldable pub token_of : Place → ℕ → ℕ → List ℕ → Option (SpannedLexeme × ℕ)
token_of p o c cs = spelled_front p o c cs (front_of c cs)

-- the tokens that are found, and how far they go
pub record Cutting : Type 0 where
  pub tokens : List SpannedLexeme
  pub extent : Extent

-- no token begins here
abbrev pub stop : Place → Cutting
stop p = record { tokens = []; extent = UpTo p }

-- a token, and what is found behind it
abbrev pub behind : SpannedLexeme → Cutting → Cutting
behind t rest = record { tokens = t ∷ rest.tokens; extent = rest.extent }

-- What is found at a place where this blank or this token begins, if one does. `rest n` is what is found behind the
-- first character, where n more belong to it.
abbrev pub found : Place → Option ℕ → Option (SpannedLexeme × ℕ) → (ℕ → Cutting) → Cutting
found p (Some n) token rest = rest n
found p None (Some token) rest = behind token.0 (rest token.1)
found p None None rest = stop p

-- what is found in a text at this place and offset, of which the first n characters belong to what stands before
abbrev pub cut : ℕ → Place → ℕ → List ℕ → Cutting
cut n p o [] = record { tokens = []; extent = ToTheEnd }
cut (suc n) p o (c ∷ cs) = cut n (place_after p c) (o + length (encode_utf8 c)) cs
cut zero p o (c ∷ cs) =
    found p (blank_of c cs) (token_of p o c cs) (λ n. cut n (place_after p c) (o + length (encode_utf8 c)) cs)

-- the refusal of a text in which no token begins at this place
abbrev pub no_token : Place → Diag
no_token p = record { code = E02; place = p }

-- The answer is the value that there is, and where there is none a refusal at this place. Of an answer for want of
-- memory nothing is said.
abbrev pub Finds : {X Y : Type 0} → (X → Y) → Place → Result X LexError → Option Y → Type 0
Finds view p (Ok x) o = o ≡ Some (view x)
Finds view p (Err (Refused diag)) o = (o ≡ None) × (diag ≡ no_token p)
Finds view p (Err NoMemory) o = Unit {0}

-- how the program goes over the bytes of a text

-- the size of a text with these characters
abbrev pub size_of : List ℕ → Size
size_of cs = record { characters = length cs; bytes = byte_count cs }

-- the size of so many characters at the front of cs, where there is a count
abbrev pub sized : List ℕ → Option ℕ → Option Size
sized cs = option_map (λ n. size_of (take n cs))

-- the same of a form at the front
abbrev pub sized_front : List ℕ → Option Front → Option (Form × Size)
sized_front cs = option_map (λ front. (front.0, size_of (take front.1 cs)))

-- the character does not end a line
abbrev pub stays_in_line : ℕ → Bool
stays_in_line c = not (c == 10)

-- white space that does not end a line
abbrev pub is_space : ℕ → Bool
is_space c = c == 32 || c == 9 || c == 13

-- the characters of a class
abbrev pub is_in : Class → ℕ → Bool
is_in classes.Digits = is_ascii_digit
is_in classes.Words = is_xid_continue
is_in classes.Strings = stands_in_string
is_in classes.Lines = stays_in_line
is_in classes.Spaces = is_space

-- the longest front of cs with characters of the class alone
abbrev pub front_in : Class → List ℕ → List ℕ
front_in class cs = take (prefix_len (is_in class) cs) cs

-- The answer is what follows the first character of the text, if that is one of the class.
abbrev pub IsPastOne : Class → List ℕ → Option (List ℕ) → Type 0
IsPastOne class text (Some rest) = (c : ℕ) × (text ≡ encode_utf8 c ++ rest) × IsTrue (is_in class c)
IsPastOne class text None = first_passes (is_in class) (chars text) ≡ false

-- the place so many columns further
abbrev pub columns_past : Place → ℕ → Place
columns_past p n = record { line = p.line; col = p.col + n }

-- what the program holds of a token, with the count of its characters behind the first
abbrev pub spanned_front : Token × Size → SpannedLexeme × ℕ
spanned_front front = (spanned_of front.0, front.1.characters)

-- tokens, and what is found behind them
abbrev pub joined : List SpannedLexeme → Cutting → Cutting
joined ts found = record { tokens = ts ++ found.tokens; extent = found.extent }

-- What begins with c is found at this place and offset, where the tokens ts were found before it. The answer is the
-- size of what more of cs belongs to it, all in one line, and us are the tokens with it; or no token begins here. Of an
-- answer for want of memory nothing is said.
abbrev pub FindsFront : Place → ℕ → ℕ → List ℕ → List SpannedLexeme → Result Size LexError → List SpannedLexeme → Type 0
FindsFront p o c cs ts (Ok more) us =
    (more ≡ size_of (take more.characters cs)) × IsTrue (list_all stays_in_line (take more.characters cs))
    × (joined ts (cut 0 p o (c ∷ cs))
    ≡ joined us (cut more.characters (place_after p c) (o + length (encode_utf8 c)) cs))
FindsFront p o c cs ts (Err (Refused diag)) us = (diag ≡ no_token p) × (cut 0 p o (c ∷ cs) ≡ stop p)
FindsFront p o c cs ts (Err NoMemory) us = Unit {0}

-- The answer has what is found. Of an answer for want of memory nothing is said.
abbrev pub Gives : Result Tokens LexError → Cutting → Type 0
Gives (Ok tokens) found = found ≡ record { tokens = spanned_all tokens; extent = ToTheEnd }
Gives (Err (Refused diag)) found = (diag ≡ no_token diag.place) × (found.extent ≡ UpTo diag.place)
Gives (Err NoMemory) found = Unit {0}
