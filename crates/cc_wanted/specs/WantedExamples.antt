-- Fronts of modules with the kinds that are wanted behind them.
use Rattle.std.specs.Prelude.{ℕ, suc, pos, List, [], ◌∷◌, ◌++◌, map, codes, replicate}
use Rattle.cc_lex.specs.declared.token.Word.{Word}
use Rattle.cc_lex.specs.declared.token.Word.TheVariants as words
use Rattle.cc_lex.specs.declared.token.Symbol.{Symbol}
use Rattle.cc_lex.specs.declared.token.Symbol.TheVariants as symbols
use Rattle.cc_lex.specs.Lexemes.{Lexeme, NameLexeme, NumberLexeme, WordLexeme, SymbolLexeme, PlacedLexeme}
use Rattle.cc_wanted.specs.declared.kind.Kind.{Kind}
use Rattle.cc_wanted.specs.declared.kind.Kind.TheVariants as kinds
use Rattle.cc_wanted.specs.WantedTokens.{AreWanted}

-- words, symbols and names
abbrev pub word : Word → Lexeme
word it = WordLexeme it

abbrev pub symbol : Symbol → Lexeme
symbol it = SymbolLexeme it

abbrev pub name : List ℕ → Lexeme
name it = NameLexeme it

abbrev pub x : Lexeme
x = name (codes "x")

abbrev pub y : Lexeme
y = name (codes "y")

abbrev pub m : Lexeme
m = name (codes "m")

abbrev pub d : Lexeme
d = name (codes "d")

abbrev pub one : Lexeme
one = NumberLexeme (pos 1)

-- the tokens in a line, from this column on, each a column behind the one before
abbrev pub in_line : ℕ → List Lexeme → List PlacedLexeme
in_line col [] = []
in_line col (lexeme ∷ lexemes) = record { lexeme = lexeme; at = record { line = 1; col = col } } ∷ in_line (suc col) lexemes

-- the kinds of these words and symbols
abbrev pub kinds_of : List Word → List Symbol → List Kind
kinds_of these those = map kinds.Word these ++ map kinds.Symbol those

-- what any expression begins with
abbrev pub expression_starts : List Kind
expression_starts =
    kinds.Name ∷ kinds.Number ∷ kinds.Text
    ∷ kinds_of
    (words.Fun ∷ words.Val ∷ words.If ∷ words.Box ∷ words.Unbox ∷ words.Boundary ∷ words.Exit ∷ words.Repeat ∷ words.True
    ∷ words.False ∷ words.Unit ∷ [])
    (symbols.Open ∷ [])

-- what any shape begins with
abbrev pub shape_starts : List Kind
shape_starts =
    kinds.Name
    ∷ kinds_of
    (words.UnitType ∷ words.BoolType ∷ words.IntType ∷ words.StrType ∷ words.AnyType ∷ words.ConsoleType ∷ words.FileType
    ∷ words.CounterType ∷ words.ExitType ∷ words.BoxType ∷ [])
    (symbols.Open ∷ symbols.OpenBracket ∷ [])

-- behind these tokens these kinds are wanted
abbrev pub Want : List Lexeme → List Kind → Type 0
Want lexemes told = AreWanted (in_line 1 lexemes) told

pub record WorkedFronts : Type 0 where
  -- behind no tokens at all
  pub nothing : Want [] (kinds_of (words.Import ∷ words.Def ∷ []) [])
  -- `import m`
  pub imported : Want (word words.Import ∷ m ∷ []) (kinds_of [] (symbols.Dot ∷ []))
  -- `import m.`: any name, whatever the names of operations
  pub imported_dot : Want (word words.Import ∷ m ∷ symbol symbols.Dot ∷ []) (kinds.Name ∷ [])
  -- `import m.d`
  pub imported_whole : Want
      (word words.Import ∷ m ∷ symbol symbols.Dot ∷ d ∷ [])
      (kinds_of (words.Import ∷ words.Def ∷ []) [])
  -- `def`
  pub defined : Want (word words.Def ∷ []) (kinds.Name ∷ kinds_of (words.Rec ∷ []) [])
  -- `def x`
  pub named : Want (word words.Def ∷ x ∷ []) (kinds_of [] (symbols.Colon ∷ symbols.Equals ∷ []))
  -- `def rec f`, whose type is written
  pub own : Want (word words.Def ∷ word words.Rec ∷ name (codes "f") ∷ []) (kinds_of [] (symbols.Colon ∷ []))
  -- `def x =`
  pub equals : Want (word words.Def ∷ x ∷ symbol symbols.Equals ∷ []) expression_starts
  -- `def x = y`: a further definition, but no import
  pub whole : Want
      (word words.Def ∷ x ∷ symbol symbols.Equals ∷ y ∷ [])
      (kinds_of (words.Def ∷ []) (symbols.Open ∷ symbols.OpenBracket ∷ symbols.Dot ∷ symbols.DoubleEquals
      ∷ symbols.Less ∷ symbols.Plus ∷ symbols.Minus ∷ symbols.Star ∷ []))
  -- `def x = y.`: names, of which those of operations go on
  pub dot : Want (word words.Def ∷ x ∷ symbol symbols.Equals ∷ y ∷ symbol symbols.Dot ∷ []) (kinds.Name ∷ [])
  -- `def x = y.print(`, which has an argument
  pub operation : Want
      (word words.Def ∷ x ∷ symbol symbols.Equals ∷ y ∷ symbol symbols.Dot ∷ name (codes "print")
      ∷ symbol symbols.Open ∷ [])
      expression_starts
  -- `def x = y.read(`, which has none
  pub reading : Want
      (word words.Def ∷ x ∷ symbol symbols.Equals ∷ y ∷ symbol symbols.Dot ∷ name (codes "read") ∷ symbol symbols.Open
      ∷ [])
      (kinds_of [] (symbols.Close ∷ []))
  -- `def x = 1 < 1`: no second comparison
  pub compared : Want
      (word words.Def ∷ x ∷ symbol symbols.Equals ∷ one ∷ symbol symbols.Less ∷ one ∷ [])
      (kinds_of (words.Def ∷ []) (symbols.Open ∷ symbols.OpenBracket ∷ symbols.Dot ∷ symbols.Plus ∷ symbols.Minus
      ∷ symbols.Star ∷ []))
  -- `def x = fun`
  pub function : Want
      (word words.Def ∷ x ∷ symbol symbols.Equals ∷ word words.Fun ∷ [])
      (kinds_of [] (symbols.Open ∷ symbols.OpenBracket ∷ []))
  -- `def x = unbox`: a set, or an operand as tight as a prefix wants
  pub unboxed : Want
      (word words.Def ∷ x ∷ symbol symbols.Equals ∷ word words.Unbox ∷ [])
      (kinds.Name ∷ kinds.Number ∷ kinds.Text ∷ kinds_of (words.Box ∷ words.Unbox ∷ words.Exit ∷ words.Repeat
      ∷ words.True ∷ words.False ∷ words.Unit ∷ []) (symbols.Open ∷ symbols.OpenBrace ∷ []))
  -- `def x: Int`
  pub typed : Want
      (word words.Def ∷ x ∷ symbol symbols.Colon ∷ word words.IntType ∷ [])
      (kinds_of [] (symbols.Caret ∷ symbols.Equals ∷ []))
  -- `def x: Int^`
  pub caret : Want
      (word words.Def ∷ x ∷ symbol symbols.Colon ∷ word words.IntType ∷ symbol symbols.Caret ∷ [])
      (kinds_of [] (symbols.OpenBrace ∷ symbols.Question ∷ []))
  -- `def x: Int^{`
  pub set : Want
      (word words.Def ∷ x ∷ symbol symbols.Colon ∷ word words.IntType ∷ symbol symbols.Caret
      ∷ symbol symbols.OpenBrace ∷ [])
      (kinds.Name ∷ kinds_of (words.Cap ∷ []) (symbols.CloseBrace ∷ []))
  -- `def x: (y`: a shape in parentheses, or a parameter
  pub parameter : Want
      (word words.Def ∷ x ∷ symbol symbols.Colon ∷ symbol symbols.Open ∷ y ∷ [])
      (kinds_of [] (symbols.Close ∷ symbols.Colon ∷ []))
  -- `def x: (`
  pub shape : Want (word words.Def ∷ x ∷ symbol symbols.Colon ∷ symbol symbols.Open ∷ []) shape_starts
  -- `def x = ((..(`, 99 of them: a further one goes on, though all trees are then too high
  pub deepest : Want (word words.Def ∷ x ∷ symbol symbols.Equals ∷ replicate 99 (symbol symbols.Open)) expression_starts
