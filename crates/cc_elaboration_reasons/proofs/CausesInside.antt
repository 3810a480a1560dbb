-- What is refused inside expressions and types: unknown names and omitted sets, and neither a second name nor a right side.
use Rattle.std.proofs.Common.{Bool, true, false, if◌then◌else◌, List, [], ◌∷◌, Option, Some, None}
use Rattle.cc_base.specs.declared.place.Place.{Place}
use Rattle.cc_grammar.specs.Syntax.{ElementSyntax, SetSyntax, AbsentSet, OmittedSet, WrittenSet, TypeSyntax, CapturingType, ShapeSyntax, BaseShape, AnyShape, NamedShape, ExitShape, BoxShape, ParenthesizedShape, FunctionShape, TypeFunctionShape, ExprSyntax, NameExpr, LiteralExpr, ParenthesizedExpr, ValExpr, FunExpr, TypeFunExpr, IfExpr, BoundaryExpr, OperatorExpr, BoxExpr, UnboxExpr, CallExpr, TypeCallExpr, AskExpr, TellExpr, ExitExpr, RepeatExpr, DefSyntax}
use Rattle.cc_mnf.specs.Operands.{name_of, behind}
use Rattle.cc_mnf.specs.Scopes.{Name, Scope, TermBinder, TypeBinder, outermost, under, term_variable, type_variable}
use Rattle.cc_elaboration_reasons.specs.ElaborationCauses as causes
use Rattle.cc_elaboration_reasons.specs.ElaborationCauses.{StrictPlace, InRecursion, ElaborationCause, Repeated, UnknownName, UnknownType, NotAValue, ExplainedRefusal, refused_without, ◌or_else◌}
use Rattle.cc_elaboration_reasons.specs.ExplainedElaboration.{element_refusal, elements_refusal, set_refusal, strict_set_refusal, shape_refusal, strict_type_refusal, type_refusal, written_refusal, strict_written_refusal, unboxing_refusal, expression_refusal, note_refusal}

-- the cause is one of these
abbrev pub IsInside : ElaborationCause → Type 0
IsInside (Repeated name first) = ⊥
IsInside (UnknownName name) = Unit {0}
IsInside (UnknownType name) = Unit {0}
IsInside (NotAValue form) = ⊥
IsInside (causes.OmittedSet around) = Unit {0}

-- whatever is refused, is for one of these
abbrev pub Inside : Option ExplainedRefusal → Type 0
Inside None = Unit {0}
Inside (Some one) = IsInside one.cause

both : (one other : Option ExplainedRefusal) → Inside one → Inside other → Inside (one or_else other)
both (Some one) other i j = i
both None other i j = j

without_inside : {A : Type 0} (cause : ElaborationCause) (at : Place) (o : Option A) → IsInside cause → Inside (refused_without cause at o)
without_inside cause at (Some value) i = tt
without_inside cause at None i = i

element_inside : (scope : Scope) (at : Place) (name : Option Name) → Inside (element_refusal scope at name)
element_inside scope at None = tt
element_inside scope at (Some name) = without_inside (UnknownName name) at (term_variable scope name) tt

elements_inside : (scope : Scope) (list : List ElementSyntax) → Inside (elements_refusal scope list)
elements_inside scope [] = tt
elements_inside scope (first ∷ rest) = both _ _ (element_inside scope first.at first.name) (elements_inside scope rest)

set_inside : (scope : Scope) (set : SetSyntax) → Inside (set_refusal scope set)
set_inside scope AbsentSet = tt
set_inside scope (OmittedSet at) = tt
set_inside scope (WrittenSet elements) = elements_inside scope elements

strict_set_inside : (around : StrictPlace) (scope : Scope) (set : SetSyntax) → Inside (strict_set_refusal around scope set)
strict_set_inside around scope AbsentSet = tt
strict_set_inside around scope (OmittedSet at) = tt
strict_set_inside around scope (WrittenSet elements) = elements_inside scope elements

mutual
  shape_inside : (shape : ShapeSyntax) (scope : Scope) → Inside (shape_refusal scope shape)
  shape_inside (BaseShape at base) scope = tt
  shape_inside (AnyShape at) scope = tt
  shape_inside (NamedShape at name) scope = without_inside (UnknownType name) at (type_variable scope name) tt
  shape_inside (ExitShape at inner) scope = shape_inside inner scope
  shape_inside (BoxShape at inner) scope = strict_type_inside inner _ scope
  shape_inside (ParenthesizedShape at inner) scope = shape_inside inner scope
  shape_inside (FunctionShape at parameter from to) scope = both _ _ (strict_type_inside from _ scope) (strict_type_inside to _ (under (TermBinder parameter) scope))
  shape_inside (TypeFunctionShape at parameter below to) scope = both _ _ (shape_inside below scope) (strict_type_inside to _ (under (TypeBinder parameter) scope))

  strict_type_inside : (type : TypeSyntax) (around : StrictPlace) (scope : Scope) → Inside (strict_type_refusal around scope type)
  strict_type_inside (CapturingType at inner captures) around scope = both _ _ (shape_inside inner scope) (strict_set_inside around scope captures)

type_inside : (type : TypeSyntax) (scope : Scope) → Inside (type_refusal scope type)
type_inside (CapturingType at inner captures) scope = both _ _ (shape_inside inner scope) (set_inside scope captures)

written_inside : (written : Option TypeSyntax) (scope : Scope) → Inside (written_refusal scope written)
written_inside None scope = tt
written_inside (Some written) scope = type_inside written scope

strict_written_inside : (written : Option TypeSyntax) (around : StrictPlace) (scope : Scope) → Inside (strict_written_refusal around scope written)
strict_written_inside None around scope = tt
strict_written_inside (Some written) around scope = strict_type_inside written around scope

unboxing_inside : (written : Option (List ElementSyntax)) (scope : Scope) → Inside (unboxing_refusal scope written)
unboxing_inside None scope = tt
unboxing_inside (Some elements) scope = elements_inside scope elements

pub expression_inside : (x : ExprSyntax) (scope : Scope) → Inside (expression_refusal scope x)
expression_inside (NameExpr at name) scope = without_inside (UnknownName name) at (term_variable scope name) tt
expression_inside (LiteralExpr at literal) scope = tt
expression_inside (ParenthesizedExpr at inner) scope = expression_inside inner scope
expression_inside (ValExpr at name written right body) scope =
    both _ _ (written_inside written scope) (both _ _ (expression_inside right scope) (expression_inside body (under (TermBinder name) scope)))
expression_inside (FunExpr at parameter from body) scope = both _ _ (type_inside from scope) (expression_inside body (under (TermBinder parameter) scope))
expression_inside (TypeFunExpr at parameter below body) scope = both _ _ (shape_inside below scope) (expression_inside body (under (TypeBinder parameter) scope))
expression_inside (IfExpr at type test positive negative) scope =
    both _ _ (type_inside type (behind (name_of test) scope)) (both _ _ (expression_inside test scope)
    (both _ _ (expression_inside positive (behind (name_of test) scope)) (expression_inside negative (behind (name_of test) scope))))
expression_inside (BoundaryExpr at type exit body) scope = both _ _ (shape_inside type scope) (expression_inside body (under (TermBinder exit) scope))
expression_inside (OperatorExpr at operator x y) scope = both _ _ (expression_inside x scope) (expression_inside y (behind (name_of x) scope))
expression_inside (BoxExpr at x) scope = expression_inside x scope
expression_inside (UnboxExpr at captures x) scope = both _ _ (unboxing_inside captures (behind (name_of x) scope)) (expression_inside x scope)
expression_inside (CallExpr at x y) scope = both _ _ (expression_inside x scope) (expression_inside y (behind (name_of x) scope))
expression_inside (TypeCallExpr at x argument) scope = both _ _ (expression_inside x scope) (shape_inside argument (behind (name_of x) scope))
expression_inside (AskExpr at operation x) scope = expression_inside x scope
expression_inside (TellExpr at operation x y) scope = both _ _ (expression_inside x scope) (expression_inside y (behind (name_of x) scope))
expression_inside (ExitExpr at type x y) scope =
    both _ _ (strict_type_inside type _ (behind (name_of y) (behind (name_of x) scope))) (both _ _ (expression_inside x scope) (expression_inside y (behind (name_of x) scope)))
expression_inside (RepeatExpr at x y) scope = both _ _ (expression_inside x scope) (expression_inside y (behind (name_of x) scope))

pub note_inside : (names : List Name) (definition : DefSyntax) → Inside (note_refusal names definition)
note_inside names definition = by definition.own
  where
    by : (own : Bool) → Inside (if own then strict_written_refusal InRecursion (outermost names) definition.written else written_refusal (outermost names) definition.written)
    by true = strict_written_inside definition.written InRecursion (outermost names)
    by false = written_inside definition.written (outermost names)
