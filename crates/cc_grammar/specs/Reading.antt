-- Reading the tokens of a module, computed: each production with its reader, which gives a tree with its places, or the
-- tokens from the refused one on.
use Rattle.std.specs.Prelude.{ℕ, zero, suc, ◌+◌, min, Bool, true, false, ◌&&◌, nat_le, List, [], ◌∷◌, length, Option}
use Rattle.std.specs.Prelude.{Some, None, if◌then◌else◌}
use Rattle.cc_base.specs.declared.place.Place.{Place}
use Rattle.cc_base.specs.declared.literal.Base.TheVariants as bases
use Rattle.cc_base.specs.declared.literal.Operator.{Operator}
use Rattle.cc_base.specs.declared.literal.Operator.TheVariants as operators
use Rattle.cc_base.specs.declared.literal.Op.{Op}
use Rattle.cc_base.specs.Literals.{UnitLiteral, TruthLiteral, NumberLiteral, TextLiteral}
use Rattle.cc_lex.specs.declared.token.Word.{Word}
use Rattle.cc_lex.specs.declared.token.Word.TheVariants as words
use Rattle.cc_lex.specs.declared.token.Symbol.{Symbol}
use Rattle.cc_lex.specs.declared.token.Symbol.TheVariants as symbols
use Rattle.cc_lex.specs.Lexemes.{Lexeme, NameLexeme, NumberLexeme, TextLexeme, WordLexeme, SymbolLexeme, PlacedLexeme}
use Rattle.cc_grammar.specs.Syntax.{ElementSyntax, SetSyntax, AbsentSet, OmittedSet, WrittenSet, TypeSyntax}
use Rattle.cc_grammar.specs.Syntax.{CapturingType, ShapeSyntax, BaseShape, AnyShape, NamedShape, ExitShape, BoxShape}
use Rattle.cc_grammar.specs.Syntax.{ParenthesizedShape, FunctionShape, TypeFunctionShape, ExprSyntax, NameExpr}
use Rattle.cc_grammar.specs.Syntax.{LiteralExpr, ParenthesizedExpr, ValExpr, FunExpr, TypeFunExpr, IfExpr, BoundaryExpr}
use Rattle.cc_grammar.specs.Syntax.{OperatorExpr, BoxExpr, UnboxExpr, CallExpr, TypeCallExpr, AskExpr, TellExpr}
use Rattle.cc_grammar.specs.Syntax.{ExitExpr, RepeatExpr, ImportSyntax, DefSyntax, ModuleSyntax}
use Rattle.cc_grammar.specs.Grammar.{level, operator_level, left_level, takes_argument}
use Rattle.cc_grammar.specs.Reads.{place_of, ModuleReading, TreeOf, SyntaxError, TooHigh}
use Rattle.cc_grammar.specs.Tests.{is_word, is_symbol, begins_symbol, begins_word, name_of, operation_of}

-- What a reader finds: a tree with the height that it leaves of the room, and the tokens behind it; or the tokens from
-- the one on with which no tree, or no tree within the room, goes on.
pub data Found (A : Type 0) : Type 0 where
  Got : (value : A) (spare : ℕ) (rest : List PlacedLexeme) → Found A
  Wrong : (rest : List PlacedLexeme) → Found A
  High : (rest : List PlacedLexeme) → Found A

abbrev pub Reader : Type 0 → Type 0
Reader A = List PlacedLexeme → Found A

infixl 10 ◌>>=◌
-- what is read next, behind what was found
abbrev pub ◌>>=◌ : {A B : Type 0} → Found A → (A → ℕ → List PlacedLexeme → Found B) → Found B
Got value spare rest >>= next = next value spare rest
Wrong rest >>= next = Wrong rest
High rest >>= next = High rest

-- PIECES

-- the parts of a production that have a height; an expression is at least so tight
pub data Kind : Type 0 where
  ShapePart : Kind
  TypePart : Kind
  ExprPart : (least : ℕ) → Kind

abbrev pub Value : Kind → Type 0
Value ShapePart = ShapeSyntax
Value TypePart = TypeSyntax
Value (ExprPart least) = ExprSyntax

-- readers of the parts, each in the same room
abbrev pub Readers : Type 0
Readers = (kind : Kind) → Reader (Value kind)

-- What a production is made of: words, symbols, names, names whose place the tree keeps, perhaps the set of an
-- unboxing, perhaps `: T`, and parts.
pub data Piece : Type 0 where
  AWord : (word : Word) → Piece
  ASymbol : (symbol : Symbol) → Piece
  AName : Piece
  APlacedName : Piece
  Captures : Piece
  Written : Piece
  Part : (kind : Kind) → Piece

-- a name with its place
abbrev pub PlacedName : Type 0
PlacedName = Place × List ℕ

abbrev pub PieceValue : Piece → Type 0
PieceValue (AWord word) = Unit {0}
PieceValue (ASymbol symbol) = Unit {0}
PieceValue AName = List ℕ
PieceValue APlacedName = PlacedName
PieceValue Captures = Option (List ElementSyntax)
PieceValue Written = Option TypeSyntax
PieceValue (Part kind) = Value kind

-- the values of the pieces, in order
abbrev pub Parts : List Piece → Type 0
Parts [] = Unit {0}
Parts (piece ∷ pieces) = PieceValue piece × Parts pieces

-- this word; the spare room is handed on
unfoldable pub word_at : Word → ℕ → Reader (Unit {0})
word_at word spare [] = Wrong []
word_at word spare (token ∷ tokens) = if is_word word token.lexeme then Got tt spare tokens else Wrong (token ∷ tokens)

-- this symbol
unfoldable pub symbol_at : Symbol → ℕ → Reader (Unit {0})
symbol_at symbol spare [] = Wrong []
symbol_at symbol spare (token ∷ tokens) =
    if is_symbol symbol token.lexeme then Got tt spare tokens else Wrong (token ∷ tokens)

-- a name
unfoldable pub name_at : ℕ → Reader (List ℕ)
name_at spare [] = Wrong []
name_at spare (token ∷ tokens) =
    elim (name_of token.lexeme) [ None ↦ Wrong (token ∷ tokens) | Some name ↦ Got name spare tokens ]

-- a name with its place
unfoldable pub placed_name_at : ℕ → Reader PlacedName
placed_name_at spare [] = Wrong []
placed_name_at spare (token ∷ tokens) =
    elim (name_of token.lexeme) [ None ↦ Wrong (token ∷ tokens) | Some name ↦ Got (token.at, name) spare tokens ]

-- where reading the elements of a set stands: behind `{`, behind a comma, or behind an element
pub data SetState : Type 0 where
  AtFirst : SetState
  AtNext : SetState
  Behind : SetState

-- what a token does there: it ends the set, is an element, is the comma behind one, or fits nowhere
pub data SetStep : Type 0 where
  Ends : SetStep
  Takes : (name : Option (List ℕ)) → SetStep
  Separates : SetStep
  Misfits : SetStep

-- behind `{`
abbrev pub first_step : Lexeme → SetStep
first_step (NameLexeme name) = Takes (Some name)
first_step (WordLexeme words.Cap) = Takes None
first_step (SymbolLexeme symbols.CloseBrace) = Ends
first_step _ = Misfits

-- behind a comma
abbrev pub next_step : Lexeme → SetStep
next_step (NameLexeme name) = Takes (Some name)
next_step (WordLexeme words.Cap) = Takes None
next_step _ = Misfits

-- behind an element
abbrev pub behind_step : Lexeme → SetStep
behind_step (SymbolLexeme symbols.CloseBrace) = Ends
behind_step (SymbolLexeme symbols.Comma) = Separates
behind_step _ = Misfits

abbrev pub set_step : SetState → Lexeme → SetStep
set_step AtFirst lexeme = first_step lexeme
set_step AtNext lexeme = next_step lexeme
set_step Behind lexeme = behind_step lexeme

-- the elements of a set from there on, and the `}` behind them
unfoldable pub elements_at : SetState → ℕ → Reader (List ElementSyntax)
elements_at state spare [] = Wrong []
elements_at state spare (token ∷ tokens) =
    elim (set_step state token.lexeme) [
      | Ends ↦ Got [] spare tokens
      | Takes name ↦
          elements_at Behind spare tokens >>= λ more left rest.
          Got (record { at = token.at; name = name } ∷ more) left rest
      | Separates ↦ elements_at AtNext spare tokens
      | Misfits ↦ Wrong (token ∷ tokens)
    ]

-- what is behind `^`: `?`, the brace of a set, or neither
pub data CaretStep : Type 0 where
  Omits : CaretStep
  Opens : CaretStep
  Fails : CaretStep

abbrev pub caret_step : Lexeme → CaretStep
caret_step (SymbolLexeme symbols.Question) = Omits
caret_step (SymbolLexeme symbols.OpenBrace) = Opens
caret_step _ = Fails

-- `?` or `{a, b}`, behind `^`
unfoldable pub caret_at : ℕ → Reader SetSyntax
caret_at spare [] = Wrong []
caret_at spare (token ∷ tokens) =
    elim (caret_step token.lexeme) [
      | Omits ↦ Got (OmittedSet token.at) spare tokens
      | Opens ↦ elements_at AtFirst spare tokens >>= λ elements left rest. Got (WrittenSet elements) left rest
      | Fails ↦ Wrong (token ∷ tokens)
    ]

-- perhaps `^?` or `^{a, b}`
unfoldable pub set_at : ℕ → Reader SetSyntax
set_at spare [] = Got AbsentSet spare []
set_at spare (token ∷ tokens) =
    if is_symbol symbols.Caret token.lexeme then caret_at spare tokens else Got AbsentSet spare (token ∷ tokens)

-- perhaps `{a, b}`
unfoldable pub captures_at : ℕ → Reader (Option (List ElementSyntax))
captures_at spare [] = Got None spare []
captures_at spare (token ∷ tokens) =
    if is_symbol symbols.OpenBrace token.lexeme
    then (elements_at AtFirst spare tokens >>= λ elements left rest. Got (Some elements) left rest)
    else Got None spare (token ∷ tokens)

-- perhaps `: T`
unfoldable pub written_at : Readers → ℕ → Reader (Option TypeSyntax)
written_at parts spare [] = Got None spare []
written_at parts spare (token ∷ tokens) =
    if is_symbol symbols.Colon token.lexeme
    then (parts TypePart tokens >>= λ written left rest. Got (Some written) (min spare left) rest)
    else Got None spare (token ∷ tokens)

-- a part, which may leave less room
unfoldable pub one_part_at : Readers → (kind : Kind) → ℕ → Reader (Value kind)
one_part_at parts kind spare tokens = parts kind tokens >>= λ value left rest. Got value (min spare left) rest

-- one piece
abbrev pub piece_at : Readers → (piece : Piece) → ℕ → Reader (PieceValue piece)
piece_at parts (AWord word) spare tokens = word_at word spare tokens
piece_at parts (ASymbol symbol) spare tokens = symbol_at symbol spare tokens
piece_at parts AName spare tokens = name_at spare tokens
piece_at parts APlacedName spare tokens = placed_name_at spare tokens
piece_at parts Captures spare tokens = captures_at spare tokens
piece_at parts Written spare tokens = written_at parts spare tokens
piece_at parts (Part kind) spare tokens = one_part_at parts kind spare tokens

-- the pieces, one behind the other
abbrev pub pieces_at : Readers → (pieces : List Piece) → ℕ → Reader (Parts pieces)
pieces_at parts [] spare tokens = Got tt spare tokens
pieces_at parts (piece ∷ pieces) spare tokens =
    piece_at parts piece spare tokens >>= λ value left rest.
    pieces_at parts pieces left rest >>= λ values less behind. Got (value, values) less behind

-- SHAPES AND TYPES

-- the shapes of more than one token
pub data ShapeRule : Type 0 where
  ExitShapeRule : ShapeRule
  BoxShapeRule : ShapeRule
  InnerRule : ShapeRule
  NamedInnerRule : (at : Place) (name : List ℕ) → ShapeRule
  FunctionShapeRule : (parameter : List ℕ) → ShapeRule
  TypeFunctionShapeRule : ShapeRule

-- the pieces behind the first token; behind the name too, where the rule has one
abbrev pub shape_pieces : ShapeRule → List Piece
shape_pieces ExitShapeRule = ASymbol symbols.OpenBracket ∷ Part ShapePart ∷ ASymbol symbols.CloseBracket ∷ []
shape_pieces BoxShapeRule = ASymbol symbols.OpenBracket ∷ Part TypePart ∷ ASymbol symbols.CloseBracket ∷ []
shape_pieces InnerRule = Part ShapePart ∷ ASymbol symbols.Close ∷ []
shape_pieces (NamedInnerRule at name) = ASymbol symbols.Close ∷ []
shape_pieces (FunctionShapeRule parameter) =
    ASymbol symbols.Colon ∷ Part TypePart ∷ ASymbol symbols.Close ∷ ASymbol symbols.Arrow ∷ Part TypePart ∷ []
shape_pieces TypeFunctionShapeRule =
    AName ∷ ASymbol symbols.Below ∷ Part ShapePart ∷ ASymbol symbols.CloseBracket ∷ ASymbol symbols.Arrow ∷
    Part TypePart ∷ []

-- the shape at a place that has these parts
abbrev pub shape_tree : (rule : ShapeRule) → Place → Parts (shape_pieces rule) → ShapeSyntax
shape_tree ExitShapeRule at (opening, (gives, (close, end))) = ExitShape at gives
shape_tree BoxShapeRule at (opening, (content, (close, end))) = BoxShape at content
shape_tree InnerRule at (inner, (close, end)) = ParenthesizedShape at inner
shape_tree (NamedInnerRule place name) at (close, end) = ParenthesizedShape at (NamedShape place name)
shape_tree (FunctionShapeRule parameter) at (colon, (takes, (close, (arrow, (gives, end))))) =
    FunctionShape at parameter takes gives
shape_tree TypeFunctionShapeRule at (parameter, (below, (bound, (close, (arrow, (gives, end)))))) =
    TypeFunctionShape at parameter bound gives

-- the shape of this rule, from the tokens behind its front on
unfoldable pub shape_rule_at : Readers → ℕ → Place → ShapeRule → Reader ShapeSyntax
shape_rule_at parts room at rule tokens =
    pieces_at parts (shape_pieces rule) room tokens >>= λ values spare rest. Got (shape_tree rule at values) spare rest

-- what is behind `(` and a name: the `)` of a pair of parentheses, or the parameter's type of a function
unfoldable pub named_at : Readers → ℕ → Place → PlacedName → Reader ShapeSyntax
named_at parts room at name tokens =
    if begins_symbol symbols.Colon tokens
    then shape_rule_at parts room at (FunctionShapeRule name.1) tokens
    else shape_rule_at parts room at (NamedInnerRule name.0 name.1) tokens

-- what is behind `(`
unfoldable pub paren_at : Readers → ℕ → Place → Reader ShapeSyntax
paren_at parts room at [] = Wrong []
paren_at parts room at (token ∷ tokens) =
    elim (name_of token.lexeme) [
      | None ↦ shape_rule_at parts room at InnerRule (token ∷ tokens)
      | Some name ↦ named_at parts room at (token.at, name) tokens
    ]

-- what the first token of a shape begins, if it is not all of it
pub data ShapeStart : Type 0 where
  ExitStart : ShapeStart
  BoxStart : ShapeStart
  ParenStart : ShapeStart
  TypeFunctionStart : ShapeStart

-- what a token is of a shape: all of it, its start, or nothing
pub data ShapeHead : Type 0 where
  WholeShape : (shape : ShapeSyntax) → ShapeHead
  StartsShape : (start : ShapeStart) → ShapeHead
  NoShape : ShapeHead

abbrev pub shape_head : Place → Lexeme → ShapeHead
shape_head at (NameLexeme name) = WholeShape (NamedShape at name)
shape_head at (WordLexeme words.UnitType) = WholeShape (BaseShape at bases.Unit)
shape_head at (WordLexeme words.BoolType) = WholeShape (BaseShape at bases.Bool)
shape_head at (WordLexeme words.IntType) = WholeShape (BaseShape at bases.Int)
shape_head at (WordLexeme words.StrType) = WholeShape (BaseShape at bases.Str)
shape_head at (WordLexeme words.ConsoleType) = WholeShape (BaseShape at bases.Console)
shape_head at (WordLexeme words.FileType) = WholeShape (BaseShape at bases.File)
shape_head at (WordLexeme words.CounterType) = WholeShape (BaseShape at bases.Counter)
shape_head at (WordLexeme words.AnyType) = WholeShape (AnyShape at)
shape_head at (WordLexeme words.ExitType) = StartsShape ExitStart
shape_head at (WordLexeme words.BoxType) = StartsShape BoxStart
shape_head at (SymbolLexeme symbols.Open) = StartsShape ParenStart
shape_head at (SymbolLexeme symbols.OpenBracket) = StartsShape TypeFunctionStart
shape_head at _ = NoShape

-- a shape from behind its first token on
unfoldable pub shape_start_at : Readers → ℕ → Place → ShapeStart → Reader ShapeSyntax
shape_start_at parts room at ExitStart tokens = shape_rule_at parts room at ExitShapeRule tokens
shape_start_at parts room at BoxStart tokens = shape_rule_at parts room at BoxShapeRule tokens
shape_start_at parts room at ParenStart tokens = paren_at parts room at tokens
shape_start_at parts room at TypeFunctionStart tokens = shape_rule_at parts room at TypeFunctionShapeRule tokens

-- a shape, with so many levels below it, from readers of the parts one level below
unfoldable pub shape_over : ℕ → Readers → Reader ShapeSyntax
shape_over room parts [] = Wrong []
shape_over room parts (token ∷ tokens) =
    elim (shape_head token.at token.lexeme) [
      | WholeShape shape ↦ Got shape room tokens
      | StartsShape start ↦
          (elim room [ zero ↦ High (token ∷ tokens) | suc below ↦ shape_start_at parts below token.at start tokens ])
      | NoShape ↦ Wrong (token ∷ tokens)
    ]

abbrev pub shape_place : ShapeSyntax → Place
shape_place (BaseShape at base) = at
shape_place (AnyShape at) = at
shape_place (NamedShape at name) = at
shape_place (ExitShape at gives) = at
shape_place (BoxShape at content) = at
shape_place (ParenthesizedShape at inner) = at
shape_place (FunctionShape at parameter takes gives) = at
shape_place (TypeFunctionShape at parameter bound gives) = at

-- a type
unfoldable pub type_over : ℕ → Readers → Reader TypeSyntax
type_over room parts tokens =
    shape_over room parts tokens >>= λ shape spare rest.
    set_at spare rest >>= λ set left behind. Got (CapturingType (shape_place shape) shape set) left behind

-- EXPRESSIONS

-- the expressions that a word or a parenthesis begins
pub data ExprRule : Type 0 where
  ParenRule : ExprRule
  ValRule : ExprRule
  FunRule : ExprRule
  TypeFunRule : ExprRule
  IfRule : ExprRule
  BoundaryRule : ExprRule
  BoxRule : ExprRule
  UnboxRule : ExprRule
  ExitRule : ExprRule
  RepeatRule : ExprRule

-- the pieces behind the first token
abbrev pub expr_pieces : ExprRule → List Piece
expr_pieces ParenRule = Part (ExprPart 0) ∷ ASymbol symbols.Close ∷ []
expr_pieces ValRule =
    AName ∷ Written ∷ ASymbol symbols.Equals ∷ Part (ExprPart 0) ∷ ASymbol symbols.Semicolon ∷ Part (ExprPart 0) ∷ []
expr_pieces FunRule =
    ASymbol symbols.Open ∷ AName ∷ ASymbol symbols.Colon ∷ Part TypePart ∷ ASymbol symbols.Close ∷
    ASymbol symbols.DoubleArrow ∷ Part (ExprPart 0) ∷ []
expr_pieces TypeFunRule =
    ASymbol symbols.OpenBracket ∷ AName ∷ ASymbol symbols.Below ∷ Part ShapePart ∷ ASymbol symbols.CloseBracket ∷
    ASymbol symbols.DoubleArrow ∷ Part (ExprPart 0) ∷ []
expr_pieces IfRule =
    ASymbol symbols.OpenBracket ∷ Part TypePart ∷ ASymbol symbols.CloseBracket ∷ Part (ExprPart 0) ∷
    AWord words.Then ∷ Part (ExprPart 0) ∷ AWord words.Else ∷ Part (ExprPart 0) ∷ []
expr_pieces BoundaryRule =
    ASymbol symbols.OpenBracket ∷ Part ShapePart ∷ ASymbol symbols.CloseBracket ∷ AName ∷
    ASymbol symbols.DoubleArrow ∷ Part (ExprPart 0) ∷ []
expr_pieces BoxRule = Part (ExprPart 4) ∷ []
expr_pieces UnboxRule = Captures ∷ Part (ExprPart 4) ∷ []
expr_pieces ExitRule =
    ASymbol symbols.OpenBracket ∷ Part TypePart ∷ ASymbol symbols.CloseBracket ∷ ASymbol symbols.Open ∷
    Part (ExprPart 0) ∷ ASymbol symbols.Comma ∷ Part (ExprPart 0) ∷ ASymbol symbols.Close ∷ []
expr_pieces RepeatRule =
    ASymbol symbols.Open ∷ Part (ExprPart 0) ∷ ASymbol symbols.Comma ∷ Part (ExprPart 0) ∷ ASymbol symbols.Close ∷ []

-- the expression at a place that has these parts
abbrev pub expr_tree : (rule : ExprRule) → Place → Parts (expr_pieces rule) → ExprSyntax
expr_tree ParenRule at (inner, (close, end)) = ParenthesizedExpr at inner
expr_tree ValRule at (name, (written, (equals, (right, (semicolon, (body, end)))))) =
    ValExpr at name written right body
expr_tree FunRule at (opening, (parameter, (colon, (takes, (close, (arrow, (body, end))))))) =
    FunExpr at parameter takes body
expr_tree TypeFunRule at (opening, (parameter, (below, (bound, (close, (arrow, (body, end))))))) =
    TypeFunExpr at parameter bound body
expr_tree IfRule at (opening, (gives, (close, (test, (then', (positive, (else', (negative, end)))))))) =
    IfExpr at gives test positive negative
expr_tree BoundaryRule at (opening, (gives, (close, (exit, (arrow, (body, end)))))) = BoundaryExpr at gives exit body
expr_tree BoxRule at (content, end) = BoxExpr at content
expr_tree UnboxRule at (captures, (content, end)) = UnboxExpr at captures content
expr_tree ExitRule at (opening, (gives, (close, (paren, (exit, (comma, (value, (end, all)))))))) =
    ExitExpr at gives exit value
expr_tree RepeatRule at (opening, (count, (comma, (function, (close, end))))) = RepeatExpr at count function

-- how tight the expression is
abbrev pub rule_level : ExprRule → ℕ
rule_level ParenRule = 5
rule_level ValRule = 0
rule_level FunRule = 0
rule_level TypeFunRule = 0
rule_level IfRule = 0
rule_level BoundaryRule = 0
rule_level BoxRule = 4
rule_level UnboxRule = 4
rule_level ExitRule = 5
rule_level RepeatRule = 5

-- the expression of this rule, from behind its first token on
unfoldable pub expr_rule_at : Readers → ℕ → Place → ExprRule → Reader ExprSyntax
expr_rule_at parts room at rule tokens =
    pieces_at parts (expr_pieces rule) room tokens >>= λ values spare rest. Got (expr_tree rule at values) spare rest

-- what is behind `fun`: the parenthesis of a function, or the bracket of a type function
unfoldable pub fun_at : Readers → ℕ → Place → Reader ExprSyntax
fun_at parts room at tokens =
    if begins_symbol symbols.Open tokens
    then expr_rule_at parts room at FunRule tokens
    else expr_rule_at parts room at TypeFunRule tokens

-- what the first token of an expression begins: a function of either kind, or what one rule says
pub data ExprStart : Type 0 where
  FunStart : ExprStart
  RuleStart : (rule : ExprRule) → ExprStart

abbrev pub start_level : ExprStart → ℕ
start_level FunStart = 0
start_level (RuleStart rule) = rule_level rule

-- an expression from behind its first token on
unfoldable pub expr_start_at : Readers → ℕ → Place → ExprStart → Reader ExprSyntax
expr_start_at parts room at FunStart tokens = fun_at parts room at tokens
expr_start_at parts room at (RuleStart rule) tokens = expr_rule_at parts room at rule tokens

-- what a token is of an expression: all of it, its start, or nothing
pub data ExprHead : Type 0 where
  WholeExpr : (expr : ExprSyntax) → ExprHead
  StartsExpr : (start : ExprStart) → ExprHead
  NoExpr : ExprHead

abbrev pub expr_head : Place → Lexeme → ExprHead
expr_head at (NameLexeme name) = WholeExpr (NameExpr at name)
expr_head at (NumberLexeme number) = WholeExpr (LiteralExpr at (NumberLiteral number))
expr_head at (TextLexeme text) = WholeExpr (LiteralExpr at (TextLiteral text))
expr_head at (WordLexeme words.True) = WholeExpr (LiteralExpr at (TruthLiteral true))
expr_head at (WordLexeme words.False) = WholeExpr (LiteralExpr at (TruthLiteral false))
expr_head at (WordLexeme words.Unit) = WholeExpr (LiteralExpr at UnitLiteral)
expr_head at (WordLexeme words.Val) = StartsExpr (RuleStart ValRule)
expr_head at (WordLexeme words.Fun) = StartsExpr FunStart
expr_head at (WordLexeme words.If) = StartsExpr (RuleStart IfRule)
expr_head at (WordLexeme words.Boundary) = StartsExpr (RuleStart BoundaryRule)
expr_head at (WordLexeme words.Box) = StartsExpr (RuleStart BoxRule)
expr_head at (WordLexeme words.Unbox) = StartsExpr (RuleStart UnboxRule)
expr_head at (WordLexeme words.Exit) = StartsExpr (RuleStart ExitRule)
expr_head at (WordLexeme words.Repeat) = StartsExpr (RuleStart RepeatRule)
expr_head at (SymbolLexeme symbols.Open) = StartsExpr (RuleStart ParenRule)
expr_head at _ = NoExpr

-- what goes on an expression that has been read: an operator, a call, a type application, or a dot
pub data Link : Type 0 where
  OperatorLink : (operator : Operator) → Link
  CallLink : Link
  TypeCallLink : Link
  DotLink : Link

abbrev pub link_of : Lexeme → Option Link
link_of (SymbolLexeme symbols.Plus) = Some (OperatorLink operators.Add)
link_of (SymbolLexeme symbols.Minus) = Some (OperatorLink operators.Sub)
link_of (SymbolLexeme symbols.Star) = Some (OperatorLink operators.Mul)
link_of (SymbolLexeme symbols.Less) = Some (OperatorLink operators.Less)
link_of (SymbolLexeme symbols.DoubleEquals) = Some (OperatorLink operators.Equal)
link_of (SymbolLexeme symbols.Open) = Some CallLink
link_of (SymbolLexeme symbols.OpenBracket) = Some TypeCallLink
link_of (SymbolLexeme symbols.Dot) = Some DotLink
link_of _ = None

-- how tight what it makes is
abbrev pub link_level : Link → ℕ
link_level (OperatorLink operator) = operator_level operator
link_level CallLink = 5
link_level TypeCallLink = 5
link_level DotLink = 5

-- how tight what it goes on has to be
abbrev pub link_left : Link → ℕ
link_left (OperatorLink operator) = left_level operator
link_left CallLink = 5
link_left TypeCallLink = 5
link_left DotLink = 5

-- the constructs that begin with an expression
pub data LinkRule : Type 0 where
  OperatorRule : (operator : Operator) → LinkRule
  CallRule : LinkRule
  TypeCallRule : LinkRule
  AskRule : (operation : Op) → LinkRule
  TellRule : (operation : Op) → LinkRule

-- the pieces behind the link; behind the operation's name too, where the rule has one
abbrev pub link_pieces : LinkRule → List Piece
link_pieces (OperatorRule operator) = Part (ExprPart (1 + operator_level operator)) ∷ []
link_pieces CallRule = Part (ExprPart 0) ∷ ASymbol symbols.Close ∷ []
link_pieces TypeCallRule = Part ShapePart ∷ ASymbol symbols.CloseBracket ∷ []
link_pieces (AskRule operation) = ASymbol symbols.Open ∷ ASymbol symbols.Close ∷ []
link_pieces (TellRule operation) = ASymbol symbols.Open ∷ Part (ExprPart 0) ∷ ASymbol symbols.Close ∷ []

abbrev pub expr_place : ExprSyntax → Place
expr_place (NameExpr at name) = at
expr_place (LiteralExpr at literal) = at
expr_place (ParenthesizedExpr at inner) = at
expr_place (ValExpr at name written right body) = at
expr_place (FunExpr at parameter takes body) = at
expr_place (TypeFunExpr at parameter bound body) = at
expr_place (IfExpr at gives test positive negative) = at
expr_place (BoundaryExpr at gives exit body) = at
expr_place (OperatorExpr at operator left right) = at
expr_place (BoxExpr at content) = at
expr_place (UnboxExpr at captures content) = at
expr_place (CallExpr at function argument) = at
expr_place (TypeCallExpr at function argument) = at
expr_place (AskExpr at operation receiver) = at
expr_place (TellExpr at operation receiver argument) = at
expr_place (ExitExpr at gives exit value) = at
expr_place (RepeatExpr at count function) = at

-- what the expression becomes with these parts; it stands where the expression stands
abbrev pub link_tree : (rule : LinkRule) → ExprSyntax → Parts (link_pieces rule) → ExprSyntax
link_tree (OperatorRule operator) expr (right, end) = OperatorExpr (expr_place expr) operator expr right
link_tree CallRule expr (argument, (close, end)) = CallExpr (expr_place expr) expr argument
link_tree TypeCallRule expr (argument, (close, end)) = TypeCallExpr (expr_place expr) expr argument
link_tree (AskRule operation) expr (opening, (close, end)) = AskExpr (expr_place expr) operation expr
link_tree (TellRule operation) expr (opening, (argument, (close, end))) =
    TellExpr (expr_place expr) operation expr argument

-- the construct of this rule, from behind its front on
unfoldable pub link_rule_at : Readers → ℕ → ExprSyntax → LinkRule → Reader ExprSyntax
link_rule_at parts spare expr rule tokens =
    pieces_at parts (link_pieces rule) spare tokens >>= λ values left rest. Got (link_tree rule expr values) left rest

-- an operation with or without an argument, from behind its name on
unfoldable pub operation_at : Readers → ℕ → ExprSyntax → Op → Reader ExprSyntax
operation_at parts spare expr operation tokens =
    if takes_argument operation
    then link_rule_at parts spare expr (TellRule operation) tokens
    else link_rule_at parts spare expr (AskRule operation) tokens

-- what is behind a dot
unfoldable pub dot_at : Readers → ℕ → ExprSyntax → Reader ExprSyntax
dot_at parts spare expr [] = Wrong []
dot_at parts spare expr (token ∷ tokens) =
    elim (operation_of token.lexeme)
    [ None ↦ Wrong (token ∷ tokens) | Some operation ↦ operation_at parts spare expr operation tokens ]

-- what the link makes of an expression, from behind the link on
unfoldable pub link_at : Readers → ℕ → ExprSyntax → Link → Reader ExprSyntax
link_at parts spare expr (OperatorLink operator) tokens = link_rule_at parts spare expr (OperatorRule operator) tokens
link_at parts spare expr CallLink tokens = link_rule_at parts spare expr CallRule tokens
link_at parts spare expr TypeCallLink tokens = link_rule_at parts spare expr TypeCallRule tokens
link_at parts spare expr DotLink tokens = dot_at parts spare expr tokens

-- The link goes on an expression at a place that wants so tight a one: what it makes is tight enough for the place, and
-- the expression is tight enough for the link.
abbrev pub goes_on : ℕ → ExprSyntax → Link → Bool
goes_on least expr link = nat_le least (link_level link) && nat_le (link_left link) (level expr)

-- the link, where it goes on
abbrev pub if_on : ℕ → ExprSyntax → Option Link → Option Link
if_on least expr None = None
if_on least expr (Some link) = if goes_on least expr link then Some link else None

-- the link at the front of the tokens that goes on the expression
unfoldable pub next_link : ℕ → ExprSyntax → List PlacedLexeme → Option Link
next_link least expr [] = None
next_link least expr (token ∷ tokens) = if_on least expr (link_of token.lexeme)

-- the tokens behind the first
abbrev pub behind_first : List PlacedLexeme → List PlacedLexeme
behind_first [] = []
behind_first (token ∷ tokens) = tokens

-- An expression with all that goes on it. Each link takes a level, so that the links are no more than the spare room:
-- with as many steps as there is spare room all are read.
unfoldable pub links_at : Readers → ℕ → ℕ → ExprSyntax → ℕ → Reader ExprSyntax
links_at parts least zero expr spare tokens =
    elim (next_link least expr tokens) [ None ↦ Got expr spare tokens | Some link ↦ High tokens ]
links_at parts least (suc steps) expr spare tokens =
    elim (next_link least expr tokens) [
      | None ↦ Got expr spare tokens
      | Some link ↦
          (elim spare [
            | zero ↦ High tokens
            | suc left ↦
                link_at parts left expr link (behind_first tokens) >>= λ more less rest.
                links_at parts least steps more less rest
          ])
    ]

-- an expression that is at least so tight, with so many levels below it, from readers of the parts one level below
unfoldable pub expr_over : ℕ → Readers → ℕ → Reader ExprSyntax
expr_over room parts least [] = Wrong []
expr_over room parts least (token ∷ tokens) =
    elim (expr_head token.at token.lexeme) [
      | WholeExpr expr ↦ links_at parts least room expr room tokens
      | StartsExpr start ↦
          (if nat_le least (start_level start)
          then (elim room [
            | zero ↦ High (token ∷ tokens)
            | suc below ↦
                expr_start_at parts below token.at start tokens >>= λ expr spare rest.
                links_at parts least spare expr spare rest
          ])
          else Wrong (token ∷ tokens))
      | NoExpr ↦ Wrong (token ∷ tokens)
    ]

-- any part, from readers of the parts one level below
abbrev pub part_over : ℕ → Readers → Readers
part_over room parts ShapePart = shape_over room parts
part_over room parts TypePart = type_over room parts
part_over room parts (ExprPart least) = expr_over room parts least

-- the readers below the last level, which are never asked
abbrev pub nothing_at : Readers
nothing_at kind tokens = High tokens

-- any part with so many levels below it: its height is at most one more
unfoldable pub part_at : ℕ → Readers
part_at zero = part_over zero nothing_at
part_at (suc room) = part_over (suc room) (part_at room)

-- MODULES

-- a tree has at most height 100, so that 99 levels are below it
abbrev pub top_room : ℕ
top_room = 99

abbrev pub import_pieces : List Piece
import_pieces = APlacedName ∷ ASymbol symbols.Dot ∷ APlacedName ∷ []

abbrev pub import_tree : Parts import_pieces → ImportSyntax
import_tree (source, (dot, (name, end))) =
    record { source = source.1; at = source.0; name = name.1; name_at = name.0 }

-- `m.d`, behind `import`
unfoldable pub import_at : Reader ImportSyntax
import_at tokens =
    pieces_at (part_at top_room) import_pieces top_room tokens >>= λ values spare rest.
    Got (import_tree values) spare rest

-- the imports at the front, so many at most
unfoldable pub imports_at : ℕ → Reader (List ImportSyntax)
imports_at steps [] = Got [] top_room []
imports_at zero (token ∷ tokens) = Got [] top_room (token ∷ tokens)
imports_at (suc steps) (token ∷ tokens) =
    if is_word words.Import token.lexeme
    then
    (import_at tokens >>= λ first spare rest.
    imports_at steps rest >>= λ more left behind. Got (first ∷ more) left behind)
    else Got [] top_room (token ∷ tokens)

-- a definition, and one that is its own
pub data DefRule : Type 0 where
  PlainRule : DefRule
  OwnRule : DefRule

abbrev pub def_pieces : DefRule → List Piece
def_pieces PlainRule = APlacedName ∷ Written ∷ ASymbol symbols.Equals ∷ Part (ExprPart 0) ∷ []
def_pieces OwnRule =
    AWord words.Rec ∷ APlacedName ∷ ASymbol symbols.Colon ∷ Part TypePart ∷ ASymbol symbols.Equals ∷
    Part (ExprPart 0) ∷ []

abbrev pub def_tree : (rule : DefRule) → Parts (def_pieces rule) → DefSyntax
def_tree PlainRule (name, (written, (equals, (right, end)))) =
    record { own = false; name = name.1; name_at = name.0; written = written; right = right }
def_tree OwnRule (rec', (name, (colon, (written, (equals, (right, end)))))) =
    record { own = true; name = name.1; name_at = name.0; written = Some written; right = right }

-- the definition of this rule, behind `def`
unfoldable pub def_rule_at : DefRule → Reader DefSyntax
def_rule_at rule tokens =
    pieces_at (part_at top_room) (def_pieces rule) top_room tokens >>= λ values spare rest.
    Got (def_tree rule values) spare rest

-- a definition, behind `def`
unfoldable pub def_at : Reader DefSyntax
def_at tokens = if begins_word words.Rec tokens then def_rule_at OwnRule tokens else def_rule_at PlainRule tokens

-- the definitions up to the end, so many at most
unfoldable pub defs_at : ℕ → Reader (List DefSyntax)
defs_at steps [] = Got [] top_room []
defs_at zero (token ∷ tokens) = Wrong (token ∷ tokens)
defs_at (suc steps) (token ∷ tokens) =
    if is_word words.Def token.lexeme
    then
    (def_at tokens >>= λ first spare rest.
    defs_at steps rest >>= λ more left behind. Got (first ∷ more) left behind)
    else Wrong (token ∷ tokens)

-- a module; each import and each definition takes a token, so that there are no more of them than tokens
unfoldable pub module_at : Reader ModuleSyntax
module_at tokens =
    imports_at (length tokens) tokens >>= λ imports spare rest.
    defs_at (length rest) rest >>= λ defs left behind. Got (record { imports = imports; defs = defs }) left behind

-- the answer for what was found
abbrev pub reading_from : Place → Found ModuleSyntax → ModuleReading
reading_from end (Got it spare rest) = TreeOf it
reading_from end (Wrong rest) = SyntaxError (place_of rest end)
reading_from end (High rest) = TooHigh (place_of rest end)

-- what the tokens of a text that ends there are
unfoldable pub reading_of : List PlacedLexeme → Place → ModuleReading
reading_of tokens end = reading_from end (module_at tokens)
