-- The names of the binders of a term, as the text has them: elaboration makes a term of an expression, whose binders are
-- those of the expression, and one for each operand that it names, which has no name in the text.
use Rattle.std.specs.Prelude.{Option, Some, None}
use Rattle.cc_grammar.specs.Syntax.{ExprSyntax, NameExpr, LiteralExpr, ParenthesizedExpr, ValExpr, FunExpr, TypeFunExpr}
use Rattle.cc_grammar.specs.Syntax.{IfExpr, BoundaryExpr, OperatorExpr, BoxExpr, UnboxExpr, CallExpr, TypeCallExpr}
use Rattle.cc_grammar.specs.Syntax.{AskExpr, TellExpr, ExitExpr, RepeatExpr}
use Rattle.cc_mnf.specs.Operands.{NameAt, name_of}
use Rattle.cc_reasons.specs.ExplainedInference.{BinderNames, Alone, Around, Between}

-- under the binder of an operand, if that is no name
abbrev pub behind_operand : Option NameAt → BinderNames → BinderNames → BinderNames
behind_operand (Some name) operand construct = construct
behind_operand None operand construct = Between None operand construct

-- the names of the binders in the term of an expression
abbrev pub binder_names : ExprSyntax → BinderNames
binder_names (NameExpr at name) = Alone
binder_names (LiteralExpr at literal) = Alone
binder_names (ParenthesizedExpr at inner) = binder_names inner
binder_names (ValExpr at name written right body) = Between (Some name) (binder_names right) (binder_names body)
binder_names (FunExpr at parameter takes body) = Around (Some parameter) (binder_names body)
binder_names (TypeFunExpr at parameter bound body) = Around (Some parameter) (binder_names body)
binder_names (IfExpr at gives test positive negative) =
    behind_operand (name_of test) (binder_names test) (Between None (binder_names positive) (binder_names negative))
binder_names (BoundaryExpr at gives exit body) = Around (Some exit) (binder_names body)
binder_names (OperatorExpr at operator left right) =
    behind_operand (name_of left) (binder_names left) (behind_operand (name_of right) (binder_names right) Alone)
binder_names (BoxExpr at content) = behind_operand (name_of content) (binder_names content) Alone
binder_names (UnboxExpr at captures content) = behind_operand (name_of content) (binder_names content) Alone
binder_names (CallExpr at function argument) =
    behind_operand (name_of function) (binder_names function)
    (behind_operand (name_of argument) (binder_names argument) Alone)
binder_names (TypeCallExpr at function argument) = behind_operand (name_of function) (binder_names function) Alone
binder_names (AskExpr at operation receiver) = behind_operand (name_of receiver) (binder_names receiver) Alone
binder_names (TellExpr at operation receiver argument) =
    behind_operand (name_of receiver) (binder_names receiver)
    (behind_operand (name_of argument) (binder_names argument) Alone)
binder_names (ExitExpr at gives exit value) =
    behind_operand (name_of exit) (binder_names exit) (behind_operand (name_of value) (binder_names value) Alone)
binder_names (RepeatExpr at count function) =
    behind_operand (name_of count) (binder_names count) (behind_operand (name_of function) (binder_names function) Alone)
