-- The syntax trees of a module as plain data. Each node keeps the place of its first token; a name is its list of code
-- points.
use Rattle.std.specs.Prelude.{ℕ, ◌+◌, max, Bool, List, Option, Some, None}
use Rattle.cc_base.specs.declared.place.Place.{Place}
use Rattle.cc_base.specs.declared.literal.Base.{Base}
use Rattle.cc_base.specs.declared.literal.Operator.{Operator}
use Rattle.cc_base.specs.declared.literal.Op.{Op}
use Rattle.cc_base.specs.Literals.{Literal}

-- an element of a set: a name, or `cap` where there is none
pub record ElementSyntax : Type 0 where
  pub at : Place
  pub name : Option (List ℕ)

-- the set of a type: none, `^?` with the place of its `?`, or `^{a, b}`
pub data SetSyntax : Type 0 where
  AbsentSet : SetSyntax
  OmittedSet : (at : Place) → SetSyntax
  WrittenSet : (elements : List ElementSyntax) → SetSyntax

mutual
  -- a type: a shape, perhaps with a set
  pub data TypeSyntax : Type 0 where
    CapturingType : (at : Place) (shape : ShapeSyntax) (set : SetSyntax) → TypeSyntax

  -- a base shape, `Any`, `X`, `Exit[S]`, `Box[T]`, `(S)`, `(x: T) -> U`, or `[X <: S] -> T`
  pub data ShapeSyntax : Type 0 where
    BaseShape : (at : Place) (base : Base) → ShapeSyntax
    AnyShape : (at : Place) → ShapeSyntax
    NamedShape : (at : Place) (name : List ℕ) → ShapeSyntax
    ExitShape : (at : Place) (gives : ShapeSyntax) → ShapeSyntax
    BoxShape : (at : Place) (content : TypeSyntax) → ShapeSyntax
    ParenthesizedShape : (at : Place) (inner : ShapeSyntax) → ShapeSyntax
    FunctionShape : (at : Place) (parameter : List ℕ) (takes gives : TypeSyntax) → ShapeSyntax
    TypeFunctionShape : (at : Place) (parameter : List ℕ) (bound : ShapeSyntax) (gives : TypeSyntax) → ShapeSyntax

-- An expression: `x`, a literal, `(e)`, `val x: T = e; f`, `fun (x: T) => e`, `fun [X <: S] => e`,
-- `if [T] e then f else g`, `boundary [S] x => e`, an operator between two, `box e`, `unbox {a, b} e`, `e(f)`, `e[S]`,
-- an operation of a device without an argument, `e.read()`, and with one, `e.print(f)`, `exit [T] (e, f)`, or
-- `repeat (e, f)`
pub data ExprSyntax : Type 0 where
  NameExpr : (at : Place) (name : List ℕ) → ExprSyntax
  LiteralExpr : (at : Place) (literal : Literal) → ExprSyntax
  ParenthesizedExpr : (at : Place) (inner : ExprSyntax) → ExprSyntax
  ValExpr : (at : Place) (name : List ℕ) (written : Option TypeSyntax) (right body : ExprSyntax) → ExprSyntax
  FunExpr : (at : Place) (parameter : List ℕ) (takes : TypeSyntax) (body : ExprSyntax) → ExprSyntax
  TypeFunExpr : (at : Place) (parameter : List ℕ) (bound : ShapeSyntax) (body : ExprSyntax) → ExprSyntax
  IfExpr : (at : Place) (gives : TypeSyntax) (test positive negative : ExprSyntax) → ExprSyntax
  BoundaryExpr : (at : Place) (gives : ShapeSyntax) (exit : List ℕ) (body : ExprSyntax) → ExprSyntax
  OperatorExpr : (at : Place) (operator : Operator) (left right : ExprSyntax) → ExprSyntax
  BoxExpr : (at : Place) (content : ExprSyntax) → ExprSyntax
  UnboxExpr : (at : Place) (captures : Option (List ElementSyntax)) (content : ExprSyntax) → ExprSyntax
  CallExpr : (at : Place) (function argument : ExprSyntax) → ExprSyntax
  TypeCallExpr : (at : Place) (function : ExprSyntax) (argument : ShapeSyntax) → ExprSyntax
  AskExpr : (at : Place) (operation : Op) (receiver : ExprSyntax) → ExprSyntax
  TellExpr : (at : Place) (operation : Op) (receiver argument : ExprSyntax) → ExprSyntax
  ExitExpr : (at : Place) (gives : TypeSyntax) (exit value : ExprSyntax) → ExprSyntax
  RepeatExpr : (at : Place) (count function : ExprSyntax) → ExprSyntax

-- `import m.d`, with the places of the two names
pub record ImportSyntax : Type 0 where
  pub source : List ℕ
  pub at : Place
  pub name : List ℕ
  pub name_at : Place

-- `def x: T = e`, perhaps without the type, or `def rec x: T = e`, which is its own
pub record DefSyntax : Type 0 where
  pub own : Bool
  pub name : List ℕ
  pub name_at : Place
  pub written : Option TypeSyntax
  pub right : ExprSyntax

-- the imports, and then the definitions
pub record ModuleSyntax : Type 0 where
  pub imports : List ImportSyntax
  pub defs : List DefSyntax

-- The height of a tree: a leaf has height 1, and any other construct, a pair of parentheses included, is one higher
-- than its highest part. The parts are the expressions, types and shapes in it; a set has no height.
abbrev mutual
  pub type_height : TypeSyntax → ℕ
  type_height (CapturingType at shape set) = shape_height shape

  pub shape_height : ShapeSyntax → ℕ
  shape_height (BaseShape at base) = 1
  shape_height (AnyShape at) = 1
  shape_height (NamedShape at name) = 1
  shape_height (ExitShape at gives) = 1 + shape_height gives
  shape_height (BoxShape at content) = 1 + type_height content
  shape_height (ParenthesizedShape at inner) = 1 + shape_height inner
  shape_height (FunctionShape at parameter takes gives) = 1 + max (type_height takes) (type_height gives)
  shape_height (TypeFunctionShape at parameter bound gives) = 1 + max (shape_height bound) (type_height gives)

-- the height of a written type, which may be left out
abbrev pub written_height : Option TypeSyntax → ℕ
written_height None = 0
written_height (Some written) = type_height written

abbrev pub expr_height : ExprSyntax → ℕ
expr_height (NameExpr at name) = 1
expr_height (LiteralExpr at literal) = 1
expr_height (ParenthesizedExpr at inner) = 1 + expr_height inner
expr_height (ValExpr at name written right body) =
    1 + max (written_height written) (max (expr_height right) (expr_height body))
expr_height (FunExpr at parameter takes body) = 1 + max (type_height takes) (expr_height body)
expr_height (TypeFunExpr at parameter bound body) = 1 + max (shape_height bound) (expr_height body)
expr_height (IfExpr at gives test positive negative) =
    1 + max (type_height gives) (max (expr_height test) (max (expr_height positive) (expr_height negative)))
expr_height (BoundaryExpr at gives exit body) = 1 + max (shape_height gives) (expr_height body)
expr_height (OperatorExpr at operator left right) = 1 + max (expr_height left) (expr_height right)
expr_height (BoxExpr at content) = 1 + expr_height content
expr_height (UnboxExpr at captures content) = 1 + expr_height content
expr_height (CallExpr at function argument) = 1 + max (expr_height function) (expr_height argument)
expr_height (TypeCallExpr at function argument) = 1 + max (expr_height function) (shape_height argument)
expr_height (AskExpr at operation receiver) = 1 + expr_height receiver
expr_height (TellExpr at operation receiver argument) = 1 + max (expr_height receiver) (expr_height argument)
expr_height (ExitExpr at gives exit value) = 1 + max (type_height gives) (max (expr_height exit) (expr_height value))
expr_height (RepeatExpr at count function) = 1 + max (expr_height count) (expr_height function)
