-- The grammar of modules, in its generating direction: the terminals of each tree, and what the terminals alone do not
-- say.
use Rattle.std.specs.Prelude.{◌≡◌, ℕ, ◌+◌, ◌≤◌, ⊤, codes, Bool, true, false, List, [], ◌∷◌, ◌++◌, Option, Some, None}
use Rattle.std.specs.Prelude.{if◌then◌else◌}
use Rattle.std.specs.List.{flat_map}
use Rattle.cc_base.specs.declared.place.Place.{Place}
use Rattle.cc_base.specs.declared.literal.Base.{Base}
use Rattle.cc_base.specs.declared.literal.Base.TheVariants as bases
use Rattle.cc_base.specs.declared.literal.Operator.{Operator}
use Rattle.cc_base.specs.declared.literal.Operator.TheVariants as operators
use Rattle.cc_base.specs.declared.literal.Op.{Op}
use Rattle.cc_base.specs.declared.literal.Op.TheVariants as ops
use Rattle.cc_base.specs.Literals.{Literal, UnitLiteral, TruthLiteral, NumberLiteral, TextLiteral}
use Rattle.cc_lex.specs.declared.token.Word.{Word}
use Rattle.cc_lex.specs.declared.token.Word.TheVariants as words
use Rattle.cc_lex.specs.declared.token.Symbol.{Symbol}
use Rattle.cc_lex.specs.declared.token.Symbol.TheVariants as symbols
use Rattle.cc_lex.specs.Lexemes.{Lexeme, NameLexeme, NumberLexeme, TextLexeme, WordLexeme, SymbolLexeme, PlacedLexeme}
use Rattle.cc_grammar.specs.Syntax.{ElementSyntax, SetSyntax, AbsentSet, OmittedSet, WrittenSet, TypeSyntax}
use Rattle.cc_grammar.specs.Syntax.{CapturingType, ShapeSyntax, BaseShape, AnyShape, NamedShape, ExitShape, BoxShape}
use Rattle.cc_grammar.specs.Syntax.{ParenthesizedShape, FunctionShape, TypeFunctionShape, ExprSyntax, NameExpr}
use Rattle.cc_grammar.specs.Syntax.{LiteralExpr, ParenthesizedExpr, ValExpr, FunExpr, TypeFunExpr, IfExpr, BoundaryExpr}
use Rattle.cc_grammar.specs.Syntax.{OperatorExpr, BoxExpr, UnboxExpr, CallExpr, TypeCallExpr, AskExpr, TellExpr}
use Rattle.cc_grammar.specs.Syntax.{ExitExpr, RepeatExpr, ImportSyntax, DefSyntax, ModuleSyntax, written_height}
use Rattle.cc_grammar.specs.Syntax.{expr_height}

-- a terminal of a tree: what its token is, and the places that the tree names for it
pub record Terminal : Type 0 where
  pub lexeme : Lexeme
  pub places : List Place

-- a terminal whose place the tree does not name
abbrev pub terminal : Lexeme → Terminal
terminal lexeme = record { lexeme = lexeme; places = [] }

abbrev pub word : Word → Terminal
word it = terminal (WordLexeme it)

abbrev pub symbol : Symbol → Terminal
symbol it = terminal (SymbolLexeme it)

abbrev pub named : List ℕ → Terminal
named name = terminal (NameLexeme name)

-- the terminals, the first of which stands at the place
abbrev pub standing_at : Place → List Terminal → List Terminal
standing_at at [] = []
standing_at at (first ∷ more) = record { lexeme = first.lexeme; places = at ∷ first.places } ∷ more

-- each of the places is this one
abbrev pub AreAll : Place → List Place → Type 0
AreAll at [] = ⊤
AreAll at (place ∷ places) = (at ≡ place) × AreAll at places

-- the tokens are those of the terminals, one for each, and stand at their places
abbrev pub Spell : List PlacedLexeme → List Terminal → Type 0
Spell [] [] = ⊤
Spell [] (terminal ∷ terminals) = ⊥
Spell (token ∷ tokens) [] = ⊥
Spell (token ∷ tokens) (terminal ∷ terminals) =
    (token.lexeme ≡ terminal.lexeme) × AreAll token.at terminal.places × Spell tokens terminals

-- what an element is: a name or `cap`
abbrev pub element_lexeme : Option (List ℕ) → Lexeme
element_lexeme None = WordLexeme words.Cap
element_lexeme (Some name) = NameLexeme name

-- a name or `cap`
abbrev pub element_terminals : ElementSyntax → List Terminal
element_terminals element = standing_at element.at (terminal (element_lexeme element.name) ∷ [])

-- the elements with a comma before each
abbrev pub more_elements_terminals : List ElementSyntax → List Terminal
more_elements_terminals = flat_map (λ element. symbol symbols.Comma ∷ element_terminals element)

-- the elements with a comma between each two
abbrev pub elements_terminals : List ElementSyntax → List Terminal
elements_terminals [] = []
elements_terminals (element ∷ elements) = element_terminals element ++ more_elements_terminals elements

-- `{a, b}`
abbrev pub braced_terminals : List ElementSyntax → List Terminal
braced_terminals elements = symbol symbols.OpenBrace ∷ (elements_terminals elements ++ symbol symbols.CloseBrace ∷ [])

-- nothing, `^?` or `^{a, b}`
abbrev pub set_terminals : SetSyntax → List Terminal
set_terminals AbsentSet = []
set_terminals (OmittedSet at) = symbol symbols.Caret ∷ standing_at at (symbol symbols.Question ∷ [])
set_terminals (WrittenSet elements) = symbol symbols.Caret ∷ braced_terminals elements

-- the word for a base shape
abbrev pub base_word : Base → Word
base_word bases.Unit = words.UnitType
base_word bases.Bool = words.BoolType
base_word bases.Int = words.IntType
base_word bases.Str = words.StrType
base_word bases.Console = words.ConsoleType
base_word bases.File = words.FileType
base_word bases.Counter = words.CounterType

abbrev mutual
  -- a shape, and its set if it has one
  pub type_terminals : TypeSyntax → List Terminal
  type_terminals (CapturingType at shape set) = standing_at at (shape_terminals shape ++ set_terminals set)

  -- a word, `X`, `Exit[S]`, `Box[T]`, `(S)`, `(x: T) -> U`, or `[X <: S] -> T`
  pub shape_terminals : ShapeSyntax → List Terminal
  shape_terminals (BaseShape at base) = standing_at at (word (base_word base) ∷ [])
  shape_terminals (AnyShape at) = standing_at at (word words.AnyType ∷ [])
  shape_terminals (NamedShape at name) = standing_at at (named name ∷ [])
  shape_terminals (ExitShape at gives) =
      standing_at at (word words.ExitType ∷ symbol symbols.OpenBracket ∷
      (shape_terminals gives ++ symbol symbols.CloseBracket ∷ []))
  shape_terminals (BoxShape at content) =
      standing_at at (word words.BoxType ∷ symbol symbols.OpenBracket ∷
      (type_terminals content ++ symbol symbols.CloseBracket ∷ []))
  shape_terminals (ParenthesizedShape at inner) =
      standing_at at (symbol symbols.Open ∷ (shape_terminals inner ++ symbol symbols.Close ∷ []))
  shape_terminals (FunctionShape at parameter takes gives) =
      standing_at at (symbol symbols.Open ∷ named parameter ∷ symbol symbols.Colon ∷
      (type_terminals takes ++ symbol symbols.Close ∷ symbol symbols.Arrow ∷ type_terminals gives))
  shape_terminals (TypeFunctionShape at parameter bound gives) =
      standing_at at (symbol symbols.OpenBracket ∷ named parameter ∷ symbol symbols.Below ∷
      (shape_terminals bound ++ symbol symbols.CloseBracket ∷ symbol symbols.Arrow ∷ type_terminals gives))

-- nothing, or `: T`
abbrev pub written_terminals : Option TypeSyntax → List Terminal
written_terminals None = []
written_terminals (Some written) = symbol symbols.Colon ∷ type_terminals written

-- the literal's token
abbrev pub literal_lexeme : Literal → Lexeme
literal_lexeme UnitLiteral = WordLexeme words.Unit
literal_lexeme (TruthLiteral truth) = WordLexeme (if truth then words.True else words.False)
literal_lexeme (NumberLiteral number) = NumberLexeme number
literal_lexeme (TextLiteral text) = TextLexeme text

abbrev pub operator_symbol : Operator → Symbol
operator_symbol operators.Add = symbols.Plus
operator_symbol operators.Sub = symbols.Minus
operator_symbol operators.Mul = symbols.Star
operator_symbol operators.Less = symbols.Less
operator_symbol operators.Equal = symbols.DoubleEquals

-- the name of an operation, which is reserved nowhere else
abbrev pub operation_name : Op → List ℕ
operation_name ops.Print = codes "print"
operation_name ops.Say = codes "say"
operation_name ops.Read = codes "read"
operation_name ops.Write = codes "write"
operation_name ops.Tick = codes "tick"

-- whether an operation has an argument
abbrev pub takes_argument : Op → Bool
takes_argument ops.Print = true
takes_argument ops.Say = true
takes_argument ops.Read = false
takes_argument ops.Write = true
takes_argument ops.Tick = false

-- nothing, or `{a, b}`
abbrev pub captures_terminals : Option (List ElementSyntax) → List Terminal
captures_terminals None = []
captures_terminals (Some elements) = braced_terminals elements

-- the expressions, as they are written
abbrev pub expr_terminals : ExprSyntax → List Terminal
expr_terminals (NameExpr at name) = standing_at at (named name ∷ [])
expr_terminals (LiteralExpr at literal) = standing_at at (terminal (literal_lexeme literal) ∷ [])
expr_terminals (ParenthesizedExpr at inner) =
    standing_at at (symbol symbols.Open ∷ (expr_terminals inner ++ symbol symbols.Close ∷ []))
expr_terminals (ValExpr at name written right body) =
    standing_at at (word words.Val ∷ named name ∷ (written_terminals written ++ symbol symbols.Equals ∷
    (expr_terminals right ++ symbol symbols.Semicolon ∷ expr_terminals body)))
expr_terminals (FunExpr at parameter takes body) =
    standing_at at (word words.Fun ∷ symbol symbols.Open ∷ named parameter ∷ symbol symbols.Colon ∷
    (type_terminals takes ++ symbol symbols.Close ∷ symbol symbols.DoubleArrow ∷ expr_terminals body))
expr_terminals (TypeFunExpr at parameter bound body) =
    standing_at at (word words.Fun ∷ symbol symbols.OpenBracket ∷ named parameter ∷ symbol symbols.Below ∷
    (shape_terminals bound ++ symbol symbols.CloseBracket ∷ symbol symbols.DoubleArrow ∷ expr_terminals body))
expr_terminals (IfExpr at gives test positive negative) =
    standing_at at (word words.If ∷ symbol symbols.OpenBracket ∷
    (type_terminals gives ++ symbol symbols.CloseBracket ∷ (expr_terminals test ++ word words.Then ∷
    (expr_terminals positive ++ word words.Else ∷ expr_terminals negative))))
expr_terminals (BoundaryExpr at gives exit body) =
    standing_at at (word words.Boundary ∷ symbol symbols.OpenBracket ∷
    (shape_terminals gives ++ symbol symbols.CloseBracket ∷ named exit ∷ symbol symbols.DoubleArrow ∷
    expr_terminals body))
expr_terminals (OperatorExpr at operator left right) =
    standing_at at (expr_terminals left ++ symbol (operator_symbol operator) ∷ expr_terminals right)
expr_terminals (BoxExpr at content) = standing_at at (word words.Box ∷ expr_terminals content)
expr_terminals (UnboxExpr at captures content) =
    standing_at at (word words.Unbox ∷ (captures_terminals captures ++ expr_terminals content))
expr_terminals (CallExpr at function argument) =
    standing_at at (expr_terminals function ++ symbol symbols.Open ∷
    (expr_terminals argument ++ symbol symbols.Close ∷ []))
expr_terminals (TypeCallExpr at function argument) =
    standing_at at (expr_terminals function ++ symbol symbols.OpenBracket ∷
    (shape_terminals argument ++ symbol symbols.CloseBracket ∷ []))
expr_terminals (AskExpr at operation receiver) =
    standing_at at (expr_terminals receiver ++ symbol symbols.Dot ∷ named (operation_name operation) ∷
    symbol symbols.Open ∷ symbol symbols.Close ∷ [])
expr_terminals (TellExpr at operation receiver argument) =
    standing_at at (expr_terminals receiver ++ symbol symbols.Dot ∷ named (operation_name operation) ∷
    symbol symbols.Open ∷ (expr_terminals argument ++ symbol symbols.Close ∷ []))
expr_terminals (ExitExpr at gives exit value) =
    standing_at at (word words.Exit ∷ symbol symbols.OpenBracket ∷
    (type_terminals gives ++ symbol symbols.CloseBracket ∷ symbol symbols.Open ∷
    (expr_terminals exit ++ symbol symbols.Comma ∷ (expr_terminals value ++ symbol symbols.Close ∷ []))))
expr_terminals (RepeatExpr at count function) =
    standing_at at (word words.Repeat ∷ symbol symbols.Open ∷
    (expr_terminals count ++ symbol symbols.Comma ∷ (expr_terminals function ++ symbol symbols.Close ∷ [])))

-- `import m.d`
abbrev pub import_terminals : ImportSyntax → List Terminal
import_terminals it =
    word words.Import ∷ standing_at it.at (named it.source ∷ []) ++ symbol symbols.Dot ∷
    standing_at it.name_at (named it.name ∷ [])

-- `def x: T = e`, perhaps with `rec` or without the type
abbrev pub def_terminals : DefSyntax → List Terminal
def_terminals def =
    word words.Def ∷ ((if def.own then word words.Rec ∷ [] else []) ++ standing_at def.name_at (named def.name ∷ []) ++
    written_terminals def.written ++ symbol symbols.Equals ∷ expr_terminals def.right)

-- the imports and then the definitions
abbrev pub module_terminals : ModuleSyntax → List Terminal
module_terminals it = flat_map import_terminals it.imports ++ flat_map def_terminals it.defs

-- Where a set may stand. A set behind a type belongs to the innermost type that can take it, so that a function shape
-- whose result has no set takes none: the set would be the result's.
abbrev pub CanTake : ShapeSyntax → SetSyntax → Type 0
CanTake shape AbsentSet = ⊤
CanTake (FunctionShape at parameter takes (CapturingType place gives AbsentSet)) set = ⊥
CanTake (TypeFunctionShape at parameter bound (CapturingType place gives AbsentSet)) set = ⊥
CanTake shape set = ⊤

abbrev mutual
  pub IsType : TypeSyntax → Type 0
  IsType (CapturingType at shape set) = IsShape shape × CanTake shape set

  pub IsShape : ShapeSyntax → Type 0
  IsShape (BaseShape at base) = ⊤
  IsShape (AnyShape at) = ⊤
  IsShape (NamedShape at name) = ⊤
  IsShape (ExitShape at gives) = IsShape gives
  IsShape (BoxShape at content) = IsType content
  IsShape (ParenthesizedShape at inner) = IsShape inner
  IsShape (FunctionShape at parameter takes gives) = IsType takes × IsType gives
  IsShape (TypeFunctionShape at parameter bound gives) = IsShape bound × IsType gives

abbrev pub IsWritten : Option TypeSyntax → Type 0
IsWritten None = ⊤
IsWritten (Some written) = IsType written

-- How tightly an operator binds: comparisons least, then sums, then products.
abbrev pub operator_level : Operator → ℕ
operator_level operators.Less = 1
operator_level operators.Equal = 1
operator_level operators.Add = 2
operator_level operators.Sub = 2
operator_level operators.Mul = 3

-- How tight the left operand is at least: operators group to the left, but a comparison has no comparison as an
-- operand.
abbrev pub left_level : Operator → ℕ
left_level operators.Less = 2
left_level operators.Equal = 2
left_level operators.Add = 2
left_level operators.Sub = 2
left_level operators.Mul = 3

-- How tight an expression is: 0 for `val`, `fun`, `if` and `boundary`, which go on as far as they can, then the
-- operators, 4 for `box` and `unbox`, and 5 for all that is an operand anywhere.
abbrev pub level : ExprSyntax → ℕ
level (ValExpr at name written right body) = 0
level (FunExpr at parameter takes body) = 0
level (TypeFunExpr at parameter bound body) = 0
level (IfExpr at gives test positive negative) = 0
level (BoundaryExpr at gives exit body) = 0
level (OperatorExpr at operator left right) = operator_level operator
level (BoxExpr at content) = 4
level (UnboxExpr at captures content) = 4
level (NameExpr at name) = 5
level (LiteralExpr at literal) = 5
level (ParenthesizedExpr at inner) = 5
level (CallExpr at function argument) = 5
level (TypeCallExpr at function argument) = 5
level (AskExpr at operation receiver) = 5
level (TellExpr at operation receiver argument) = 5
level (ExitExpr at gives exit value) = 5
level (RepeatExpr at count function) = 5

-- each operand is as tight as its place wants, and each operation has an argument exactly where it takes one
abbrev pub IsExpr : ExprSyntax → Type 0
IsExpr (NameExpr at name) = ⊤
IsExpr (LiteralExpr at literal) = ⊤
IsExpr (ParenthesizedExpr at inner) = IsExpr inner
IsExpr (ValExpr at name written right body) = IsWritten written × IsExpr right × IsExpr body
IsExpr (FunExpr at parameter takes body) = IsType takes × IsExpr body
IsExpr (TypeFunExpr at parameter bound body) = IsShape bound × IsExpr body
IsExpr (IfExpr at gives test positive negative) = IsType gives × IsExpr test × IsExpr positive × IsExpr negative
IsExpr (BoundaryExpr at gives exit body) = IsShape gives × IsExpr body
IsExpr (OperatorExpr at operator left right) =
    IsExpr left × IsExpr right × (left_level operator ≤ level left) × (1 + operator_level operator ≤ level right)
IsExpr (BoxExpr at content) = IsExpr content × (4 ≤ level content)
IsExpr (UnboxExpr at captures content) = IsExpr content × (4 ≤ level content)
IsExpr (CallExpr at function argument) = IsExpr function × IsExpr argument × (5 ≤ level function)
IsExpr (TypeCallExpr at function argument) = IsExpr function × IsShape argument × (5 ≤ level function)
IsExpr (AskExpr at operation receiver) =
    IsExpr receiver × (5 ≤ level receiver) × (takes_argument operation ≡ false)
IsExpr (TellExpr at operation receiver argument) =
    IsExpr receiver × IsExpr argument × (5 ≤ level receiver) × (takes_argument operation ≡ true)
IsExpr (ExitExpr at gives exit value) = IsType gives × IsExpr exit × IsExpr value
IsExpr (RepeatExpr at count function) = IsExpr count × IsExpr function

-- the type is written where the definition is its own
abbrev pub IsWrittenIfOwn : Bool → Option TypeSyntax → Type 0
IsWrittenIfOwn true None = ⊥
IsWrittenIfOwn true (Some written) = ⊤
IsWrittenIfOwn false written = ⊤

abbrev pub IsDef : DefSyntax → Type 0
IsDef def = IsWritten def.written × IsExpr def.right × IsWrittenIfOwn def.own def.written

abbrev pub AreDefs : List DefSyntax → Type 0
AreDefs [] = ⊤
AreDefs (def ∷ defs) = IsDef def × AreDefs defs

-- no tree of the definition is higher than 100: its written type and its right side are measured apart
abbrev pub IsLowDef : DefSyntax → Type 0
IsLowDef def = (written_height def.written ≤ 100) × (expr_height def.right ≤ 100)

abbrev pub AreLowDefs : List DefSyntax → Type 0
AreLowDefs [] = ⊤
AreLowDefs (def ∷ defs) = IsLowDef def × AreLowDefs defs

-- The tokens are those of this module: they spell its terminals, at the places that its trees name, and its operands
-- and sets stand where they may.
pub record IsModule (tokens : List PlacedLexeme) (it : ModuleSyntax) : Type 0 where
  pub grammatical : AreDefs it.defs
  pub spelled : Spell tokens (module_terminals it)

-- no tree of the module is too high
abbrev pub IsLow : ModuleSyntax → Type 0
IsLow it = AreLowDefs it.defs
