-- What tokens are cut from, and what they spell.
use Rattle.std.specs.Prelude.{◌≡◌, ℕ, ◌<◌, ◌≤◌, Bool, ◌||◌, ◌&&◌, ◌==◌, not, nat_le, pos, List, [], ◌∷◌, ◌++◌, length}
use Rattle.std.specs.Prelude.{codes, IsTrue}
use Rattle.std.specs.Char.{is_ascii_digit}
use Rattle.std.specs.List.{list_all}
use Rattle.std.specs.Str.Parse.{digits_value}
use Rattle.unicode_ident.specs.Ident.{is_xid_start, is_xid_continue}
use Rattle.cc_base.specs.Names.{first_passes, IsName}
use Rattle.cc_lex.specs.declared.token.Word.{Word}
use Rattle.cc_lex.specs.declared.token.Word.TheVariants as words
use Rattle.cc_lex.specs.declared.token.Symbol.{Symbol}
use Rattle.cc_lex.specs.declared.token.Symbol.TheVariants as symbols
use Rattle.cc_lex.specs.declared.form.Form.{Form}
use Rattle.cc_lex.specs.declared.form.Form.TheVariants as forms
use Rattle.cc_lex.specs.Lexemes.{Lexeme, NameLexeme, NumberLexeme, TextLexeme, WordLexeme, SymbolLexeme}

-- the letters of a reserved word
abbrev pub word_text : Word → List ℕ
word_text words.Import = codes "import"
word_text words.Def = codes "def"
word_text words.Rec = codes "rec"
word_text words.Fun = codes "fun"
word_text words.Val = codes "val"
word_text words.If = codes "if"
word_text words.Then = codes "then"
word_text words.Else = codes "else"
word_text words.Box = codes "box"
word_text words.Unbox = codes "unbox"
word_text words.Boundary = codes "boundary"
word_text words.Exit = codes "exit"
word_text words.Repeat = codes "repeat"
word_text words.True = codes "true"
word_text words.False = codes "false"
word_text words.Unit = codes "unit"
word_text words.Cap = codes "cap"
word_text words.UnitType = codes "Unit"
word_text words.BoolType = codes "Bool"
word_text words.IntType = codes "Int"
word_text words.StrType = codes "Str"
word_text words.AnyType = codes "Any"
word_text words.ConsoleType = codes "Console"
word_text words.FileType = codes "File"
word_text words.CounterType = codes "Counter"
word_text words.ExitType = codes "Exit"
word_text words.BoxType = codes "Box"

-- the characters of a symbol
abbrev pub symbol_text : Symbol → List ℕ
symbol_text symbols.Open = codes "("
symbol_text symbols.Close = codes ")"
symbol_text symbols.OpenBracket = codes "["
symbol_text symbols.CloseBracket = codes "]"
symbol_text symbols.OpenBrace = codes "{"
symbol_text symbols.CloseBrace = codes "}"
symbol_text symbols.Comma = codes ","
symbol_text symbols.Colon = codes ":"
symbol_text symbols.Semicolon = codes ";"
symbol_text symbols.Dot = codes "."
symbol_text symbols.Caret = codes "^"
symbol_text symbols.Question = codes "?"
symbol_text symbols.Equals = codes "="
symbol_text symbols.DoubleEquals = codes "=="
symbol_text symbols.DoubleArrow = codes "=>"
symbol_text symbols.Arrow = codes "->"
symbol_text symbols.Below = codes "<:"
symbol_text symbols.Less = codes "<"
symbol_text symbols.Plus = codes "+"
symbol_text symbols.Minus = codes "-"
symbol_text symbols.Star = codes "*"

-- digits of ASCII, at least one
abbrev pub IsDigits : List ℕ → Type 0
IsDigits cs = IsTrue (first_passes is_ascii_digit cs) × IsTrue (list_all is_ascii_digit cs)

-- a character that may start an identifier, then characters that may continue one: a name or a reserved word
abbrev pub IsWord : List ℕ → Type 0
IsWord cs = IsTrue (first_passes is_xid_start cs) × IsTrue (list_all is_xid_continue cs)

-- What may stand between the quotes of a string: nothing below U+0020, no quote (34), no backslash (92), and not
-- U+007F.
abbrev pub stands_in_string : ℕ → Bool
stands_in_string c = nat_le 32 c && not (c == 34 || c == 92 || c == 127)

-- the closed string with this text: at most 200 characters between two quotes
abbrev pub IsString : List ℕ → List ℕ → Type 0
IsString text cs = (cs ≡ 34 ∷ text ++ 34 ∷ []) × IsTrue (list_all stands_in_string text) × (length text ≤ 200)

-- the characters are of this form
abbrev pub IsOfForm : Form → List ℕ → Type 0
IsOfForm forms.Digits cs = IsDigits cs
IsOfForm forms.Word cs = IsWord cs
IsOfForm forms.Text cs = (text : List ℕ) × IsString text cs
IsOfForm (forms.Symbol symbol) cs = cs ≡ symbol_text symbol

-- the characters are of some form, so that a token may be cut from them
abbrev pub IsForm : List ℕ → Type 0
IsForm cs = (form : Form) × IsOfForm form cs

-- the greatest number
abbrev pub greatest_number : ℕ
greatest_number = 9223372036854775807

-- Digits whose number is too great. Zeros in front change nothing.
abbrev pub IsTooGreat : List ℕ → Type 0
IsTooGreat cs = IsDigits cs × (greatest_number < digits_value 10 cs)

-- The characters spell the token. Every form spells one, but for digits whose number is too great.
abbrev pub Spells : Lexeme → List ℕ → Type 0
Spells (NameLexeme name) cs = IsName cs × (name ≡ cs)
Spells (NumberLexeme number) cs =
    IsDigits cs × (digits_value 10 cs ≤ greatest_number) × (number ≡ pos (digits_value 10 cs))
Spells (TextLexeme text) cs = IsString text cs
Spells (WordLexeme word) cs = cs ≡ word_text word
Spells (SymbolLexeme symbol) cs = cs ≡ symbol_text symbol
