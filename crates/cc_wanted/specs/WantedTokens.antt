-- Which kinds of tokens go on behind the tokens of a module that has begun. It is what a refusal of the next token tells as
-- wanted: the set of tokens with which the front is viable (viable prefixes, as the theory of parsing calls them).
use Rattle.std.specs.Prelude.{◌≡◌, ◌↔◌, Bool, List, [], ◌∷◌, ◌++◌, filter, map, IsTrue}
use Rattle.cc_lex.specs.declared.token.Word.TheVariants as words
use Rattle.cc_lex.specs.declared.token.Symbol.TheVariants as symbols
use Rattle.cc_lex.specs.Lexemes.{Lexeme, NameLexeme, NumberLexeme, TextLexeme, WordLexeme, SymbolLexeme, PlacedLexeme}
use Rattle.cc_grammar.specs.Reads.{Begins}
use Rattle.cc_wanted.specs.declared.kind.Kind.{Kind}
use Rattle.cc_wanted.specs.declared.kind.Kind.TheVariants as kinds

-- the token is of the kind: a name, a number, a text, or the very word or symbol
abbrev pub IsOfKind : Kind → Lexeme → Type 0
IsOfKind kinds.Name (NameLexeme name) = Unit {0}
IsOfKind kinds.Number (NumberLexeme number) = Unit {0}
IsOfKind kinds.Text (TextLexeme text) = Unit {0}
IsOfKind (kinds.Word word) (WordLexeme other) = word ≡ other
IsOfKind (kinds.Symbol symbol) (SymbolLexeme other) = symbol ≡ other
IsOfKind kind lexeme = ⊥

-- some module, of whatever height, begins with these tokens and one of the kind
abbrev pub GoesOnWith : List PlacedLexeme → Kind → Type 0
GoesOnWith front kind = (token : PlacedLexeme) × IsOfKind kind token.lexeme × Begins (front ++ token ∷ [])

-- all kinds, each once, in the order in which they are told: names, numbers and texts, then words, then symbols
abbrev pub every_kind : List Kind
every_kind =
    kinds.Name ∷ kinds.Number ∷ kinds.Text
    ∷ map kinds.Word
    (words.Import ∷ words.Def ∷ words.Rec ∷ words.Fun ∷ words.Val ∷ words.If ∷ words.Then ∷ words.Else ∷ words.Box
    ∷ words.Unbox ∷ words.Boundary ∷ words.Exit ∷ words.Repeat ∷ words.True ∷ words.False ∷ words.Unit ∷ words.Cap
    ∷ words.UnitType ∷ words.BoolType ∷ words.IntType ∷ words.StrType ∷ words.AnyType ∷ words.ConsoleType
    ∷ words.FileType ∷ words.CounterType ∷ words.ExitType ∷ words.BoxType ∷ [])
    ++ map kinds.Symbol
    (symbols.Open ∷ symbols.Close ∷ symbols.OpenBracket ∷ symbols.CloseBracket ∷ symbols.OpenBrace
    ∷ symbols.CloseBrace ∷ symbols.Comma ∷ symbols.Colon ∷ symbols.Semicolon ∷ symbols.Dot ∷ symbols.Caret
    ∷ symbols.Question ∷ symbols.Equals ∷ symbols.DoubleEquals ∷ symbols.DoubleArrow ∷ symbols.Arrow ∷ symbols.Below
    ∷ symbols.Less ∷ symbols.Plus ∷ symbols.Minus ∷ symbols.Star ∷ [])

-- These are the kinds that are wanted behind the tokens: of all kinds, in their order, exactly those with which some module
-- goes on.
abbrev pub AreWanted : List PlacedLexeme → List Kind → Type 0
AreWanted front told =
    (wants : Kind → Bool) × (told ≡ filter wants every_kind) × ((kind : Kind) → IsTrue (wants kind) ↔ GoesOnWith front kind)

-- Behind any tokens there is one such list.
abbrev pub TokensWantOneListOfKinds : Type 0
TokensWantOneListOfKinds =
    (front : List PlacedLexeme) (one other : List Kind) → AreWanted front one → AreWanted front other → one ≡ other
