-- Tests of tokens: which word or symbol each is.
use Rattle.std.specs.Prelude.{ℕ, Bool, false, nat_eq, List, [], ◌∷◌, Option, Some, None, codes, if◌then◌else◌}
use Rattle.std.specs.Str.{bytes_eq}
use Rattle.cc_base.specs.declared.literal.Op.{Op}
use Rattle.cc_base.specs.declared.literal.Op.TheVariants as ops
use Rattle.cc_lex.specs.declared.token.Word.{Word}
use Rattle.cc_lex.specs.declared.token.Word.TheVariants as words
use Rattle.cc_lex.specs.declared.token.Symbol.{Symbol}
use Rattle.cc_lex.specs.declared.token.Symbol.TheVariants as symbols
use Rattle.cc_lex.specs.Lexemes.{Lexeme, NameLexeme, NumberLexeme, TextLexeme, WordLexeme, SymbolLexeme, PlacedLexeme}

-- a number for each word
abbrev pub word_number : Word → ℕ
word_number words.Import = 0
word_number words.Def = 1
word_number words.Rec = 2
word_number words.Fun = 3
word_number words.Val = 4
word_number words.If = 5
word_number words.Then = 6
word_number words.Else = 7
word_number words.Box = 8
word_number words.Unbox = 9
word_number words.Boundary = 10
word_number words.Exit = 11
word_number words.Repeat = 12
word_number words.True = 13
word_number words.False = 14
word_number words.Unit = 15
word_number words.Cap = 16
word_number words.UnitType = 17
word_number words.BoolType = 18
word_number words.IntType = 19
word_number words.StrType = 20
word_number words.AnyType = 21
word_number words.ConsoleType = 22
word_number words.FileType = 23
word_number words.CounterType = 24
word_number words.ExitType = 25
word_number words.BoxType = 26

-- a number for each symbol
abbrev pub symbol_number : Symbol → ℕ
symbol_number symbols.Open = 0
symbol_number symbols.Close = 1
symbol_number symbols.OpenBracket = 2
symbol_number symbols.CloseBracket = 3
symbol_number symbols.OpenBrace = 4
symbol_number symbols.CloseBrace = 5
symbol_number symbols.Comma = 6
symbol_number symbols.Colon = 7
symbol_number symbols.Semicolon = 8
symbol_number symbols.Dot = 9
symbol_number symbols.Caret = 10
symbol_number symbols.Question = 11
symbol_number symbols.Equals = 12
symbol_number symbols.DoubleEquals = 13
symbol_number symbols.DoubleArrow = 14
symbol_number symbols.Arrow = 15
symbol_number symbols.Below = 16
symbol_number symbols.Less = 17
symbol_number symbols.Plus = 18
symbol_number symbols.Minus = 19
symbol_number symbols.Star = 20

-- the lexeme is this word
abbrev pub is_word : Word → Lexeme → Bool
is_word word (WordLexeme other) = nat_eq (word_number word) (word_number other)
is_word word (SymbolLexeme other) = false
is_word word (NameLexeme name) = false
is_word word (NumberLexeme number) = false
is_word word (TextLexeme text) = false

-- the lexeme is this symbol
abbrev pub is_symbol : Symbol → Lexeme → Bool
is_symbol symbol (SymbolLexeme other) = nat_eq (symbol_number symbol) (symbol_number other)
is_symbol symbol (WordLexeme other) = false
is_symbol symbol (NameLexeme name) = false
is_symbol symbol (NumberLexeme number) = false
is_symbol symbol (TextLexeme text) = false

-- the first token is this symbol
abbrev pub begins_symbol : Symbol → List PlacedLexeme → Bool
begins_symbol symbol [] = false
begins_symbol symbol (token ∷ tokens) = is_symbol symbol token.lexeme

-- the first token is this word
abbrev pub begins_word : Word → List PlacedLexeme → Bool
begins_word word [] = false
begins_word word (token ∷ tokens) = is_word word token.lexeme

-- the name that a lexeme is
abbrev pub name_of : Lexeme → Option (List ℕ)
name_of (NameLexeme name) = Some name
name_of (NumberLexeme number) = None
name_of (TextLexeme text) = None
name_of (WordLexeme word) = None
name_of (SymbolLexeme symbol) = None

-- the operation of this name
unfoldable pub operation_named : List ℕ → Option Op
operation_named name =
    if bytes_eq name (codes "print") then Some ops.Print else
    if bytes_eq name (codes "say") then Some ops.Say else
    if bytes_eq name (codes "read") then Some ops.Read else
    if bytes_eq name (codes "write") then Some ops.Write else
    if bytes_eq name (codes "tick") then Some ops.Tick else None

-- the operation that a lexeme names
abbrev pub operation_of : Lexeme → Option Op
operation_of (NameLexeme name) = operation_named name
operation_of (NumberLexeme number) = None
operation_of (TextLexeme text) = None
operation_of (WordLexeme word) = None
operation_of (SymbolLexeme symbol) = None
