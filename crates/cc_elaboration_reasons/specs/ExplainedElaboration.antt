-- The first refusal of elaboration with its cause, found in the order in which elaboration goes. Whatever elaboration gives
-- besides does not matter here: which names are visible is known from the text.
use Rattle.std.specs.Prelude.{zero, List, [], ◌∷◌, ◌++◌, map, Option, Some, None, if◌then◌else◌}
use Rattle.std.specs.Str.{bytes_eq}
use Rattle.cc_base.specs.declared.place.Place.{Place}
use Rattle.cc_grammar.specs.Syntax.{ElementSyntax, SetSyntax, AbsentSet, OmittedSet, WrittenSet, TypeSyntax}
use Rattle.cc_grammar.specs.Syntax.{CapturingType, ShapeSyntax, BaseShape, AnyShape, NamedShape, ExitShape, BoxShape}
use Rattle.cc_grammar.specs.Syntax.{ParenthesizedShape, FunctionShape, TypeFunctionShape, ExprSyntax, NameExpr}
use Rattle.cc_grammar.specs.Syntax.{LiteralExpr, ParenthesizedExpr, ValExpr, FunExpr, TypeFunExpr, IfExpr, BoundaryExpr}
use Rattle.cc_grammar.specs.Syntax.{OperatorExpr, BoxExpr, UnboxExpr, CallExpr, TypeCallExpr, AskExpr, TellExpr}
use Rattle.cc_grammar.specs.Syntax.{ExitExpr, RepeatExpr, ImportSyntax, DefSyntax, ModuleSyntax}
use Rattle.cc_mnf.specs.ElaboratedModules.{CoreDefinition, elaborated_definition}
use Rattle.cc_mnf.specs.Operands.{start, name_of, behind}
use Rattle.cc_mnf.specs.Scopes.{Name, Scope, TermBinder, TypeBinder, outermost, under, term_variable, type_variable}
use Rattle.cc_mnf.specs.Steps.{ElaborationOutcome, Refused, Found}
use Rattle.cc_elaboration_reasons.specs.ElaborationCauses as causes
use Rattle.cc_elaboration_reasons.specs.ElaborationCauses.{form_of, StrictPlace, InBox, InParameter, InResult}
use Rattle.cc_elaboration_reasons.specs.ElaborationCauses.{InTypeResult, InExit, InRecursion, Repeated, UnknownName}
use Rattle.cc_elaboration_reasons.specs.ElaborationCauses.{UnknownType, NotAValue, ExplainedRefusal, refused}
use Rattle.cc_elaboration_reasons.specs.ElaborationCauses.{refused_without, ◌or_else◌}

-- of a name of terms
abbrev pub name_refusal : Scope → Place → Name → Option ExplainedRefusal
name_refusal scope at name = refused_without (UnknownName name) at (term_variable scope name)

-- of an element at the place; no name is the universal capability
abbrev pub element_refusal : Scope → Place → Option Name → Option ExplainedRefusal
element_refusal scope at None = None
element_refusal scope at (Some name) = name_refusal scope at name

-- of the elements of a set, from left to right
abbrev pub elements_refusal : Scope → List ElementSyntax → Option ExplainedRefusal
elements_refusal scope [] = None
elements_refusal scope (first ∷ rest) = element_refusal scope first.at first.name or_else elements_refusal scope rest

-- of a set that may be omitted
abbrev pub set_refusal : Scope → SetSyntax → Option ExplainedRefusal
set_refusal scope AbsentSet = None
set_refusal scope (OmittedSet at) = None
set_refusal scope (WrittenSet elements) = elements_refusal scope elements

-- of one that may not, which stands there
abbrev pub strict_set_refusal : StrictPlace → Scope → SetSyntax → Option ExplainedRefusal
strict_set_refusal around scope AbsentSet = None
strict_set_refusal around scope (OmittedSet at) = refused (causes.OmittedSet around) at
strict_set_refusal around scope (WrittenSet elements) = elements_refusal scope elements

abbrev mutual
  -- of a shape
  pub shape_refusal : Scope → ShapeSyntax → Option ExplainedRefusal
  shape_refusal scope (BaseShape at base) = None
  shape_refusal scope (AnyShape at) = None
  shape_refusal scope (NamedShape at name) = refused_without (UnknownType name) at (type_variable scope name)
  shape_refusal scope (ExitShape at inner) = shape_refusal scope inner
  shape_refusal scope (BoxShape at inner) = strict_type_refusal InBox scope inner
  shape_refusal scope (ParenthesizedShape at inner) = shape_refusal scope inner
  shape_refusal scope (FunctionShape at parameter from to) =
      strict_type_refusal InParameter scope from
      or_else strict_type_refusal InResult (under (TermBinder parameter) scope) to
  shape_refusal scope (TypeFunctionShape at parameter below to) =
      shape_refusal scope below or_else strict_type_refusal InTypeResult (under (TypeBinder parameter) scope) to

  -- of a type whose set may not be omitted, which stands there
  pub strict_type_refusal : StrictPlace → Scope → TypeSyntax → Option ExplainedRefusal
  strict_type_refusal around scope (CapturingType at inner captures) =
      shape_refusal scope inner or_else strict_set_refusal around scope captures

-- of a type whose set may be omitted
abbrev pub type_refusal : Scope → TypeSyntax → Option ExplainedRefusal
type_refusal scope (CapturingType at inner captures) = shape_refusal scope inner or_else set_refusal scope captures

-- of a type that may be left out, where its set may be omitted, and where it may not
abbrev pub written_refusal : Scope → Option TypeSyntax → Option ExplainedRefusal
written_refusal scope None = None
written_refusal scope (Some written) = type_refusal scope written

abbrev pub strict_written_refusal : StrictPlace → Scope → Option TypeSyntax → Option ExplainedRefusal
strict_written_refusal around scope None = None
strict_written_refusal around scope (Some written) = strict_type_refusal around scope written

-- of the set of an unboxing
abbrev pub unboxing_refusal : Scope → Option (List ElementSyntax) → Option ExplainedRefusal
unboxing_refusal scope None = None
unboxing_refusal scope (Some elements) = elements_refusal scope elements

-- Of an expression. What stands behind an operand that will be named stands under its binder.
abbrev pub expression_refusal : Scope → ExprSyntax → Option ExplainedRefusal
expression_refusal scope (NameExpr at name) = name_refusal scope at name
expression_refusal scope (LiteralExpr at literal) = None
expression_refusal scope (ParenthesizedExpr at inner) = expression_refusal scope inner
expression_refusal scope (ValExpr at name written right body) =
    written_refusal scope written or_else expression_refusal scope right
    or_else expression_refusal (under (TermBinder name) scope) body
expression_refusal scope (FunExpr at parameter from body) =
    type_refusal scope from or_else expression_refusal (under (TermBinder parameter) scope) body
expression_refusal scope (TypeFunExpr at parameter below body) =
    shape_refusal scope below or_else expression_refusal (under (TypeBinder parameter) scope) body
expression_refusal scope (IfExpr at type test positive negative) =
    type_refusal (behind (name_of test) scope) type or_else expression_refusal scope test
    or_else expression_refusal (behind (name_of test) scope) positive
    or_else expression_refusal (behind (name_of test) scope) negative
expression_refusal scope (BoundaryExpr at type exit body) =
    shape_refusal scope type or_else expression_refusal (under (TermBinder exit) scope) body
expression_refusal scope (OperatorExpr at operator x y) =
    expression_refusal scope x or_else expression_refusal (behind (name_of x) scope) y
expression_refusal scope (BoxExpr at x) = expression_refusal scope x
expression_refusal scope (UnboxExpr at captures x) =
    unboxing_refusal (behind (name_of x) scope) captures or_else expression_refusal scope x
expression_refusal scope (CallExpr at x y) =
    expression_refusal scope x or_else expression_refusal (behind (name_of x) scope) y
expression_refusal scope (TypeCallExpr at x argument) =
    expression_refusal scope x or_else shape_refusal (behind (name_of x) scope) argument
expression_refusal scope (AskExpr at operation x) = expression_refusal scope x
expression_refusal scope (TellExpr at operation x y) =
    expression_refusal scope x or_else expression_refusal (behind (name_of x) scope) y
expression_refusal scope (ExitExpr at type x y) =
    strict_type_refusal InExit (behind (name_of y) (behind (name_of x) scope)) type
    or_else expression_refusal scope x or_else expression_refusal (behind (name_of x) scope) y
expression_refusal scope (RepeatExpr at x y) =
    expression_refusal scope x or_else expression_refusal (behind (name_of x) scope) y

-- of the type that is written for a definition, where these names are visible: the set of a recursive one may not be omitted
abbrev pub note_refusal : List Name → DefSyntax → Option ExplainedRefusal
note_refusal names definition =
    if definition.own
    then strict_written_refusal InRecursion (outermost names) definition.written
    else written_refusal (outermost names) definition.written

-- what is left to refuse in a definition whose names and sets are in order: a right side that is no value
abbrev pub value_refusal : DefSyntax → ElaborationOutcome CoreDefinition → Option ExplainedRefusal
value_refusal definition (Refused code at) = refused (NotAValue (form_of definition.right)) (start definition.right)
value_refusal definition (Found value holes) = None

-- of a definition after these names, where these are they and its own
abbrev pub definition_refusal : List Name → List Name → DefSyntax → Option ExplainedRefusal
definition_refusal names with_own definition =
    note_refusal names definition
    or_else expression_refusal (outermost (if definition.own then with_own else names)) definition.right
    or_else value_refusal definition (elaborated_definition names with_own definition zero)

-- a name that is taken, and where it stands in the text: that of a device stands nowhere
pub record TakenName : Type 0 where
  pub name : Name
  pub at : Option Place

abbrev pub device_name : Name → TakenName
device_name name = record { name = name; at = None }

abbrev pub import_name : ImportSyntax → TakenName
import_name one = record { name = one.name; at = Some one.name_at }

abbrev pub definition_name : DefSyntax → TakenName
definition_name one = record { name = one.name; at = Some one.name_at }

-- the names alone
abbrev pub names_in : List TakenName → List Name
names_in taken = map (λ one. one.name) taken

-- of a name at the place that is one more, where these are taken
abbrev pub repetition_refusal : List TakenName → Name → Place → Option ExplainedRefusal
repetition_refusal [] name at = None
repetition_refusal (first ∷ rest) name at =
    if bytes_eq name first.name then refused (Repeated name first.at) at else repetition_refusal rest name at

-- of imports, where these names are taken
abbrev pub imports_refusal : List TakenName → List ImportSyntax → Option ExplainedRefusal
imports_refusal taken [] = None
imports_refusal taken (first ∷ rest) =
    repetition_refusal taken first.name first.name_at or_else imports_refusal (taken ++ import_name first ∷ []) rest

-- of definitions
abbrev pub definitions_refusal : List TakenName → List DefSyntax → Option ExplainedRefusal
definitions_refusal taken [] = None
definitions_refusal taken (first ∷ rest) =
    repetition_refusal taken first.name first.name_at
    or_else definition_refusal (names_in taken) (names_in (taken ++ definition_name first ∷ [])) first
    or_else definitions_refusal (taken ++ definition_name first ∷ []) rest

-- The first refusal of a module in the order of the text, where devices have these names.
abbrev pub first_refusal : List Name → ModuleSyntax → Option ExplainedRefusal
first_refusal devices text =
    imports_refusal (map device_name devices) text.imports
    or_else definitions_refusal (map device_name devices ++ map import_name text.imports) text.defs
