-- The elaboration of expressions. They become terms in monadic normal form: parentheses vanish, operands that are no
-- names are named, names become variables, and the omitted set of a parameter becomes a hole.
use Rattle.std.specs.Prelude.{Option, Some, None}
use Rattle.cc_base.specs.declared.code.Code.TheVariants.{E10}
use Rattle.cc_base.specs.declared.place.Place.{Place}
use Rattle.cc_core.specs.Places.{Alone, Around, Between, spots_at}
use Rattle.cc_core.specs.Terms.{VariableTerm, LiteralTerm, FunctionTerm, TypeFunctionTerm, BoxTerm, Application}
use Rattle.cc_core.specs.Terms.{TypeApplication, Unboxing, Let, Primitive, Conditional, Repetition, Operation}
use Rattle.cc_core.specs.Terms.{Boundary, Leave}
use Rattle.cc_grammar.specs.Syntax.{ShapeSyntax, BaseShape, AnyShape, NamedShape, ExitShape, BoxShape}
use Rattle.cc_grammar.specs.Syntax.{ParenthesizedShape, FunctionShape, TypeFunctionShape}
use Rattle.cc_grammar.specs.Syntax.{ExprSyntax, NameExpr, LiteralExpr, ParenthesizedExpr, ValExpr, FunExpr}
use Rattle.cc_grammar.specs.Syntax.{TypeFunExpr, IfExpr, BoundaryExpr, OperatorExpr, BoxExpr, UnboxExpr, CallExpr}
use Rattle.cc_grammar.specs.Syntax.{TypeCallExpr, AskExpr, TellExpr, ExitExpr, RepeatExpr}
use Rattle.cc_mnf.specs.ElaboratedTypes.{elaborated_shape, elaborated_type, parameter_type, elaborated_note}
use Rattle.cc_mnf.specs.ElaboratedTypes.{optional_note, optional_elements}
use Rattle.cc_mnf.specs.Operands.{PlacedTerm, placed, leaf, start, name_of, behind, operand_of, variable_of, named}
use Rattle.cc_mnf.specs.Operands.{with_operand, with_operands}
use Rattle.cc_mnf.specs.Scopes.{Scope, TermBinder, TypeBinder, under, term_variable}
use Rattle.cc_mnf.specs.Steps.{Step, ◌>>=◌, gives, or_refused}

-- where a shape starts
abbrev pub shape_start : ShapeSyntax → Place
shape_start (BaseShape at base) = at
shape_start (AnyShape at) = at
shape_start (NamedShape at name) = at
shape_start (ExitShape at inner) = at
shape_start (BoxShape at content) = at
shape_start (ParenthesizedShape at inner) = at
shape_start (FunctionShape at parameter from to) = at
shape_start (TypeFunctionShape at parameter bound to) = at

-- The term of an expression that starts at the place, which is that of the outermost parenthesis around it, if there is
-- one. Its other two places are: of a `let`, the word `val` or the start of the operand that is named; of an unboxing,
-- the start of the operand and the word `unbox`; of a type application, the starts of the function and of the shape; of
-- a choice, the start of the condition; of an operation, those of the receiver and of the argument, if there is one; of
-- other forms with two operands, the starts of these. What is not named here is where the expression starts.
unfoldable pub elaborated : Scope → Place → ExprSyntax → Step PlacedTerm
elaborated scope at (NameExpr own name) = do
  variable ← or_refused E10 own (term_variable scope name)
  gives (leaf at (VariableTerm variable))
elaborated scope at (LiteralExpr own literal) = gives (leaf at (LiteralTerm literal))
elaborated scope at (ParenthesizedExpr own inner) = elaborated scope at inner
elaborated scope at (ValExpr own name written right body) = do
  note ← optional_note scope written
  value ← elaborated scope (start right) right
  rest ← elaborated (under (TermBinder name) scope) (start body) body
  gives (placed (Let note value.term rest.term) (Between (spots_at at own at) value.places rest.places))
elaborated scope at (FunExpr own parameter from body) = do
  takes ← parameter_type scope from
  part ← elaborated (under (TermBinder parameter) scope) (start body) body
  gives (placed (FunctionTerm takes.shape takes.set part.term) (Around (spots_at at at at) part.places))
elaborated scope at (TypeFunExpr own parameter below body) = do
  bound ← elaborated_shape scope below
  part ← elaborated (under (TypeBinder parameter) scope) (start body) body
  gives (placed (TypeFunctionTerm bound part.term) (Around (spots_at at at at) part.places))
elaborated scope at (IfExpr own type test positive negative) = do
  note ← elaborated_note (behind (name_of test) scope) type
  condition ← operand_of scope test (name_of test) (elaborated scope (start test) test)
  one ← elaborated (behind (name_of test) scope) (start positive) positive
  other ← elaborated (behind (name_of test) scope) (start negative) negative
  gives (named at condition
      (placed (Conditional note (variable_of condition) one.term other.term)
      (Between (spots_at at (start test) at) one.places other.places)))
elaborated scope at (BoundaryExpr own type exit body) = do
  shape ← elaborated_shape scope type
  part ← elaborated (under (TermBinder exit) scope) (start body) body
  gives (placed (Boundary shape part.term) (Around (spots_at at at at) part.places))
elaborated scope at (OperatorExpr own operator x y) = do
  left ← operand_of scope x (name_of x) (elaborated scope (start x) x)
  right ← operand_of (behind (name_of x) scope) y (name_of y) (elaborated (behind (name_of x) scope) (start y) y)
  gives (with_operands left right (Primitive operator) (spots_at at (start x) (start y)))
elaborated scope at (BoxExpr own x) = do
  content ← operand_of scope x (name_of x) (elaborated scope (start x) x)
  gives (with_operand content BoxTerm (spots_at at at at))
elaborated scope at (UnboxExpr own captures x) = do
  set ← optional_elements (behind (name_of x) scope) captures
  content ← operand_of scope x (name_of x) (elaborated scope (start x) x)
  gives (with_operand content (Unboxing set) (spots_at at (start x) own))
elaborated scope at (CallExpr own x y) = do
  function ← operand_of scope x (name_of x) (elaborated scope (start x) x)
  argument ← operand_of (behind (name_of x) scope) y (name_of y) (elaborated (behind (name_of x) scope) (start y) y)
  gives (with_operands function argument Application (spots_at at (start x) (start y)))
elaborated scope at (TypeCallExpr own x argument) = do
  function ← operand_of scope x (name_of x) (elaborated scope (start x) x)
  shape ← elaborated_shape (behind (name_of x) scope) argument
  gives (with_operand function (λ f. TypeApplication f shape) (spots_at at (start x) (shape_start argument)))
elaborated scope at (AskExpr own operation x) = do
  receiver ← operand_of scope x (name_of x) (elaborated scope (start x) x)
  gives (with_operand receiver (λ r. Operation operation r None) (spots_at at (start x) at))
elaborated scope at (TellExpr own operation x y) = do
  receiver ← operand_of scope x (name_of x) (elaborated scope (start x) x)
  argument ← operand_of (behind (name_of x) scope) y (name_of y) (elaborated (behind (name_of x) scope) (start y) y)
  gives (with_operands receiver argument (λ r a. Operation operation r (Some a)) (spots_at at (start x) (start y)))
elaborated scope at (ExitExpr own type x y) = do
  takes ← elaborated_type (behind (name_of y) (behind (name_of x) scope)) type
  exit ← operand_of scope x (name_of x) (elaborated scope (start x) x)
  value ← operand_of (behind (name_of x) scope) y (name_of y) (elaborated (behind (name_of x) scope) (start y) y)
  gives (with_operands exit value (Leave takes.shape takes.set) (spots_at at (start x) (start y)))
elaborated scope at (RepeatExpr own x y) = do
  count ← operand_of scope x (name_of x) (elaborated scope (start x) x)
  function ← operand_of (behind (name_of x) scope) y (name_of y) (elaborated (behind (name_of x) scope) (start y) y)
  gives (with_operands count function Repetition (spots_at at (start x) (start y)))
