-- How tight each form of an expression is, and how tight an operator wants its operands, by numbers.
use Rattle.std.specs.Prelude.{◌≡◌, pos, codes, None}
use Rattle.cc_base.specs.Literals.{NumberLiteral}
use Rattle.cc_base.specs.declared.literal.Base.TheVariants as bases
use Rattle.cc_base.specs.declared.literal.Op.TheVariants as operations
use Rattle.cc_base.specs.declared.literal.Operator.TheVariants as operators
use Rattle.cc_base.specs.declared.place.Place.{Place}
use Rattle.cc_grammar.specs.Grammar.{level, left_level}
use Rattle.cc_grammar.specs.Syntax.{TypeSyntax, CapturingType, AbsentSet, ShapeSyntax, BaseShape, ExprSyntax, NameExpr}
use Rattle.cc_grammar.specs.Syntax.{LiteralExpr, ParenthesizedExpr, ValExpr, FunExpr, TypeFunExpr, IfExpr, BoundaryExpr}
use Rattle.cc_grammar.specs.Syntax.{OperatorExpr, BoxExpr, UnboxExpr, CallExpr, TypeCallExpr, AskExpr, TellExpr}
use Rattle.cc_grammar.specs.Syntax.{ExitExpr, RepeatExpr}

-- some place, and at it a name, a shape and a type
abbrev pub here : Place
here = record { line = 1; col = 1 }

abbrev pub name : ExprSyntax
name = NameExpr here (codes "x")

abbrev pub shape : ShapeSyntax
shape = BaseShape here bases.Int

abbrev pub type : TypeSyntax
type = CapturingType here shape AbsentSet

-- The forms that go on as far as they can are loosest, then come operators, then boxing and unboxing, and then what is an
-- operand anywhere.
pub record LevelsOfForms : Type 0 where
  pub binding : level (ValExpr here (codes "x") None name name) ≡ 0
  pub function : level (FunExpr here (codes "x") type name) ≡ 0
  pub type_function : level (TypeFunExpr here (codes "X") shape name) ≡ 0
  pub choice : level (IfExpr here type name name name) ≡ 0
  pub boundary : level (BoundaryExpr here shape (codes "x") name) ≡ 0
  pub less : level (OperatorExpr here operators.Less name name) ≡ 1
  pub equal : level (OperatorExpr here operators.Equal name name) ≡ 1
  pub sum : level (OperatorExpr here operators.Add name name) ≡ 2
  pub difference : level (OperatorExpr here operators.Sub name name) ≡ 2
  pub product : level (OperatorExpr here operators.Mul name name) ≡ 3
  pub boxing : level (BoxExpr here name) ≡ 4
  pub unboxing : level (UnboxExpr here None name) ≡ 4
  pub named : level name ≡ 5
  pub literal : level (LiteralExpr here (NumberLiteral (pos 1))) ≡ 5
  pub parenthesized : level (ParenthesizedExpr here name) ≡ 5
  pub call : level (CallExpr here name name) ≡ 5
  pub type_call : level (TypeCallExpr here name shape) ≡ 5
  pub asked : level (AskExpr here operations.Read name) ≡ 5
  pub told : level (TellExpr here operations.Print name name) ≡ 5
  pub exit : level (ExitExpr here type name name) ≡ 5
  pub repetition : level (RepeatExpr here name name) ≡ 5

-- Operators group to the left: the left operand is at least as tight as the operator, and of a comparison tighter.
pub record LevelsOfOperands : Type 0 where
  pub left_of_less : left_level operators.Less ≡ 2
  pub left_of_equal : left_level operators.Equal ≡ 2
  pub left_of_a_sum : left_level operators.Add ≡ 2
  pub left_of_a_difference : left_level operators.Sub ≡ 2
  pub left_of_a_product : left_level operators.Mul ≡ 3
