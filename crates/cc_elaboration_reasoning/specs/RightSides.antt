-- Which right sides a definition may have, told from the text alone. It serves proofs alone.
use Rattle.std.specs.Prelude.{Bool, true, false, Option, None, is_some, if◌then◌else◌}
use Rattle.cc_grammar.specs.Syntax.{ExprSyntax, LiteralExpr, ParenthesizedExpr, FunExpr, TypeFunExpr, BoxExpr, DefSyntax}
use Rattle.cc_mnf.specs.Operands.{start, name_of}
use Rattle.cc_elaboration_reasons.specs.ElaborationCauses.{form_of, NotAValue, ExplainedRefusal, refused}

-- whether the expression becomes a literal, a function, a type function or a box, whose content has to be a name
abbrev pub becomes_value : ExprSyntax → Bool
becomes_value (LiteralExpr at literal) = true
becomes_value (ParenthesizedExpr at inner) = becomes_value inner
becomes_value (FunExpr at parameter takes body) = true
becomes_value (TypeFunExpr at parameter bound body) = true
becomes_value (BoxExpr at content) = is_some (name_of content)
becomes_value _ = false

-- whether it becomes a function or a type function
abbrev pub becomes_function : ExprSyntax → Bool
becomes_function (ParenthesizedExpr at inner) = becomes_function inner
becomes_function (FunExpr at parameter takes body) = true
becomes_function (TypeFunExpr at parameter bound body) = true
becomes_function _ = false

-- whether it may be a right side
abbrev pub becomes_right_side : Bool → ExprSyntax → Bool
becomes_right_side recursive right = if recursive then becomes_function right else becomes_value right

-- of a right side whose names and sets are in order
abbrev pub right_side_refusal : DefSyntax → Option ExplainedRefusal
right_side_refusal definition =
    if becomes_right_side definition.own definition.right
    then None
    else refused (NotAValue (form_of definition.right)) (start definition.right)
