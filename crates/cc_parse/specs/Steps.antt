-- The cases of the program's dispatchers, as the definitions of reading name them.
use Rattle.cc_grammar.specs.Reading.{Reader, ◌>>=◌, part_at, expr_start_at, links_at, Link, OperatorLink, CallLink}
use Rattle.cc_grammar.specs.Reading.{TypeCallLink, DotLink, ExprStart, RuleStart, FunStart, ParenRule, ValRule, IfRule}
use Rattle.cc_grammar.specs.Reading.{BoundaryRule, BoxRule, UnboxRule, ExitRule, RepeatRule, ExprHead, WholeExpr}
use Rattle.cc_grammar.specs.Reading.{StartsExpr, NoExpr, ShapeStart, ExitStart, BoxStart, ParenStart, TypeFunctionStart}
use Rattle.cc_grammar.specs.Reading.{ShapeHead, WholeShape, StartsShape, NoShape, SetState, AtFirst, AtNext, Behind}
use Rattle.cc_grammar.specs.Reading.{SetStep, Ends, Takes, Separates, Misfits, CaretStep, Omits, Opens, Fails}
use Rattle.std.specs.Prelude.{ℕ}
use Rattle.cc_base.specs.declared.place.Place.{Place}
use Rattle.cc_grammar.specs.Syntax.{ExprSyntax}
use Rattle.cc_parse.specs.declared.sets.SetState.{SetState as DeclaredSetState}
use Rattle.cc_parse.specs.declared.sets.SetState.TheVariants as states
use Rattle.cc_parse.specs.declared.sets.SetStep.{SetStep as DeclaredSetStep}
use Rattle.cc_parse.specs.declared.sets.SetStep.TheVariants as steps
use Rattle.cc_parse.specs.declared.sets.CaretStep.{CaretStep as DeclaredCaretStep}
use Rattle.cc_parse.specs.declared.sets.CaretStep.TheVariants as carets
use Rattle.cc_parse.specs.declared.types.ShapeStart.{ShapeStart as DeclaredShapeStart}
use Rattle.cc_parse.specs.declared.types.ShapeStart.TheVariants as starts
use Rattle.cc_parse.specs.declared.types.ShapeHead.{ShapeHead as DeclaredShapeHead}
use Rattle.cc_parse.specs.declared.types.ShapeHead.TheVariants as heads
use Rattle.cc_parse.specs.declared.heads.ExprStart.{ExprStart as DeclaredExprStart}
use Rattle.cc_parse.specs.declared.heads.ExprStart.TheVariants as begins
use Rattle.cc_parse.specs.declared.heads.ExprHead.{ExprHead as DeclaredExprHead}
use Rattle.cc_parse.specs.declared.heads.ExprHead.TheVariants as fronts
use Rattle.cc_parse.specs.declared.levels.Link.{Link as DeclaredLink}
use Rattle.cc_parse.specs.declared.levels.Link.TheVariants as links
use Rattle.cc_parse.specs.Trees.{shape_syntax, expr_syntax}

abbrev pub set_state : DeclaredSetState → SetState
set_state states.First = AtFirst
set_state states.Next = AtNext
set_state states.Behind = Behind

abbrev pub set_step_of : DeclaredSetStep → SetStep
set_step_of steps.Ends = Ends
set_step_of (steps.Takes name) = Takes name
set_step_of steps.Separates = Separates
set_step_of steps.Misfits = Misfits

abbrev pub caret_step_of : DeclaredCaretStep → CaretStep
caret_step_of carets.Omits = Omits
caret_step_of carets.Opens = Opens
caret_step_of carets.Fails = Fails

abbrev pub shape_start : DeclaredShapeStart → ShapeStart
shape_start starts.Exit = ExitStart
shape_start starts.Box = BoxStart
shape_start starts.Paren = ParenStart
shape_start starts.TypeFunction = TypeFunctionStart

abbrev pub shape_head_of : DeclaredShapeHead → ShapeHead
shape_head_of (heads.Whole shape) = WholeShape (shape_syntax shape)
shape_head_of (heads.Starts start) = StartsShape (shape_start start)
shape_head_of heads.Misfit = NoShape

abbrev pub expr_start : DeclaredExprStart → ExprStart
expr_start begins.Paren = RuleStart ParenRule
expr_start begins.Val = RuleStart ValRule
expr_start begins.Fun = FunStart
expr_start begins.If = RuleStart IfRule
expr_start begins.Boundary = RuleStart BoundaryRule
expr_start begins.Box = RuleStart BoxRule
expr_start begins.Unbox = RuleStart UnboxRule
expr_start begins.Exit = RuleStart ExitRule
expr_start begins.Repeat = RuleStart RepeatRule

abbrev pub expr_head_of : DeclaredExprHead → ExprHead
expr_head_of (fronts.Whole expr) = WholeExpr (expr_syntax expr)
expr_head_of (fronts.Starts start) = StartsExpr (expr_start start)
expr_head_of fronts.Misfit = NoExpr

abbrev pub link_syntax : DeclaredLink → Link
link_syntax (links.Operator operator) = OperatorLink operator
link_syntax links.Call = CallLink
link_syntax links.TypeCall = TypeCallLink
link_syntax links.Dot = DotLink

-- an expression from behind its first token on, with all that goes on it
unfoldable pub started_at : ℕ → ℕ → Place → ExprStart → Reader ExprSyntax
started_at room least at start tokens =
    expr_start_at (part_at room) room at start tokens >>= λ expr spare rest.
    links_at (part_at room) least spare expr spare rest
