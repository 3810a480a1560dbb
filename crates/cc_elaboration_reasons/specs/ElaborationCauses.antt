-- Why elaboration refuses a module. A cause stands beside the code and the place, and its code is that of the refusal.
use Rattle.std.specs.Prelude.{Option, Some, None}
use Rattle.cc_base.specs.declared.code.Code.{Code}
use Rattle.cc_base.specs.declared.code.Code.TheVariants.{E09, E10, E11, E12, E19}
use Rattle.cc_base.specs.declared.place.Place.{Place}
use Rattle.cc_grammar.specs.Syntax.{ExprSyntax, NameExpr, LiteralExpr, ParenthesizedExpr, ValExpr, FunExpr}
use Rattle.cc_grammar.specs.Syntax.{TypeFunExpr, IfExpr, BoundaryExpr, OperatorExpr, BoxExpr, UnboxExpr, CallExpr}
use Rattle.cc_grammar.specs.Syntax.{TypeCallExpr, AskExpr, TellExpr, ExitExpr, RepeatExpr}
use Rattle.cc_mnf.specs.ElaboratedModules.{Elaboration, IsElaborated, IsRefused}
use Rattle.cc_mnf.specs.Scopes.{Name}

-- the forms of expressions
pub data ExpressionForm : Type 0 where
  AName : ExpressionForm
  ALiteral : ExpressionForm
  AVal : ExpressionForm
  AFunction : ExpressionForm
  ATypeFunction : ExpressionForm
  AChoice : ExpressionForm
  ABoundary : ExpressionForm
  AnOperator : ExpressionForm
  ABox : ExpressionForm
  AnUnboxing : ExpressionForm
  AnApplication : ExpressionForm
  ATypeApplication : ExpressionForm
  AnOperation : ExpressionForm
  AnExit : ExpressionForm
  ARepetition : ExpressionForm

-- the form of an expression, without the parentheses around it
abbrev pub form_of : ExprSyntax → ExpressionForm
form_of (NameExpr at name) = AName
form_of (LiteralExpr at literal) = ALiteral
form_of (ParenthesizedExpr at inner) = form_of inner
form_of (ValExpr at name written right body) = AVal
form_of (FunExpr at parameter takes body) = AFunction
form_of (TypeFunExpr at parameter bound body) = ATypeFunction
form_of (IfExpr at gives test positive negative) = AChoice
form_of (BoundaryExpr at gives exit body) = ABoundary
form_of (OperatorExpr at operator left right) = AnOperator
form_of (BoxExpr at content) = ABox
form_of (UnboxExpr at captures content) = AnUnboxing
form_of (CallExpr at function argument) = AnApplication
form_of (TypeCallExpr at function argument) = ATypeApplication
form_of (AskExpr at operation receiver) = AnOperation
form_of (TellExpr at operation receiver argument) = AnOperation
form_of (ExitExpr at gives exit value) = AnExit
form_of (RepeatExpr at count function) = ARepetition

-- Where the set of a type may not be omitted: in the content of a box, in the parameter or the result of a function's
-- type, in the result of a type function's type, in the type of an `exit`, or in that of a recursive definition.
pub data StrictPlace : Type 0 where
  InBox : StrictPlace
  InParameter : StrictPlace
  InResult : StrictPlace
  InTypeResult : StrictPlace
  InExit : StrictPlace
  InRecursion : StrictPlace

-- Why a module is refused: a name is taken, and stands first at this place, or is that of a device; no term has the name;
-- no type has it; the right side of a definition, which is of this form, is no value, or in a recursive one no function;
-- or a set is omitted that has to be written.
pub data ElaborationCause : Type 0 where
  Repeated : (name : Name) (first : Option Place) → ElaborationCause
  UnknownName : (name : Name) → ElaborationCause
  UnknownType : (name : Name) → ElaborationCause
  NotAValue : (form : ExpressionForm) → ElaborationCause
  OmittedSet : (around : StrictPlace) → ElaborationCause

-- the code of a refusal with the cause
abbrev pub code_of : ElaborationCause → Code
code_of (Repeated name first) = E09
code_of (UnknownName name) = E10
code_of (UnknownType name) = E11
code_of (NotAValue form) = E12
code_of (OmittedSet around) = E19

-- a refusal that tells its cause
pub record ExplainedRefusal : Type 0 where
  pub cause : ElaborationCause
  pub at : Place

-- refused for the cause at the place
abbrev pub refused : ElaborationCause → Place → Option ExplainedRefusal
refused cause at = Some (record { cause = cause; at = at })

-- not refused where there is a value
abbrev pub refused_without : {A : Type 0} → ElaborationCause → Place → Option A → Option ExplainedRefusal
refused_without cause at (Some value) = None
refused_without cause at None = refused cause at

infixr 10 ◌or_else◌
-- the first refusal of a step and of what comes after it
abbrev pub ◌or_else◌ : Option ExplainedRefusal → Option ExplainedRefusal → Option ExplainedRefusal
◌or_else◌ (Some first) rest = Some first
◌or_else◌ None rest = rest

-- the code and the place of a refusal, if there is one
abbrev pub without_cause : Option ExplainedRefusal → Option (Code × Place)
without_cause (Some one) = Some (code_of one.cause, one.at)
without_cause None = None

-- those of a module's elaboration
abbrev pub refusal_of : Elaboration → Option (Code × Place)
refusal_of (IsRefused code at) = Some (code, at)
refusal_of (IsElaborated elaborated) = None
