-- The elaboration of sets, shapes and types. Names become variables, parentheses vanish, and an omitted set is what its
-- place makes of it.
use Rattle.std.specs.Prelude.{ℕ, List, [], ◌∷◌, Option, Some, None}
use Rattle.cc_base.specs.declared.code.Code.TheVariants.{E10, E11, E19}
use Rattle.cc_base.specs.declared.place.Place.{Place}
use Rattle.cc_capture.specs.declared.var.Elem.{Elem}
use Rattle.cc_capture.specs.declared.var.Elem.TheVariants.{Var as Variable, Cap, Hole}
use Rattle.cc_capture.specs.Sets.{Set, empty, insert}
use Rattle.cc_core.specs.Shapes as core
use Rattle.cc_core.specs.Shapes.{Shape, capturing}
use Rattle.cc_core.specs.Substitution.{single}
use Rattle.cc_core.specs.Terms.{Note, Absent, Written, Own}
use Rattle.cc_grammar.specs.Syntax.{ElementSyntax, SetSyntax, AbsentSet, OmittedSet, WrittenSet, TypeSyntax}
use Rattle.cc_grammar.specs.Syntax.{CapturingType}
use Rattle.cc_grammar.specs.Syntax.{ShapeSyntax, BaseShape, AnyShape, NamedShape, ExitShape, BoxShape}
use Rattle.cc_grammar.specs.Syntax.{ParenthesizedShape, FunctionShape, TypeFunctionShape}
use Rattle.cc_mnf.specs.Scopes.{Name, Scope, TermBinder, TypeBinder, under, term_variable, type_variable}
use Rattle.cc_mnf.specs.Steps.{Step, ◌>>=◌, gives, refuses, or_refused, new_hole}

-- the element that is named, at its place; no name is the universal capability
abbrev pub named_element : Scope → Place → Option Name → Step Elem
named_element scope at None = gives Cap
named_element scope at (Some name) = do
  variable ← or_refused E10 at (term_variable scope name)
  gives (Variable variable)

-- the set with these elements besides, which are taken from left to right
unfoldable pub with_elements : Scope → Set → List ElementSyntax → Step Set
with_elements scope set [] = gives set
with_elements scope set (first ∷ rest) = do
  element ← named_element scope first.at first.name
  with_elements scope (insert element set) rest

-- a set that is written; an element that is named twice counts once
abbrev pub elaborated_elements : Scope → List ElementSyntax → Step Set
elaborated_elements scope elements = with_elements scope empty elements

-- a set where none may be omitted
abbrev pub elaborated_set : Scope → SetSyntax → Step Set
elaborated_set scope AbsentSet = gives empty
elaborated_set scope (OmittedSet at) = refuses E19 at
elaborated_set scope (WrittenSet elements) = elaborated_elements scope elements

-- the set of a parameter: an omitted one is a hole of its own
abbrev pub parameter_set : Scope → SetSyntax → Step Set
parameter_set scope AbsentSet = gives empty
parameter_set scope (OmittedSet at) = do
  hole ← new_hole
  gives (single (Hole hole))
parameter_set scope (WrittenSet elements) = elaborated_elements scope elements

-- what is written for the type of a term that has the shape: where the set is omitted, it is the term's own
abbrev pub noted_set : Scope → Shape → SetSyntax → Step Note
noted_set scope shape AbsentSet = gives (Written shape empty)
noted_set scope shape (OmittedSet at) = gives (Own shape)
noted_set scope shape (WrittenSet elements) = do
  set ← elaborated_elements scope elements
  gives (Written shape set)

unfoldable mutual
  -- a shape; what functions and type functions give is under their binder
  pub elaborated_shape : Scope → ShapeSyntax → Step Shape
  elaborated_shape scope (BaseShape at base) = gives (core.BaseShape base)
  elaborated_shape scope (AnyShape at) = gives core.AnyShape
  elaborated_shape scope (NamedShape at name) = do
    variable ← or_refused E11 at (type_variable scope name)
    gives (core.TypeVariable variable)
  elaborated_shape scope (ExitShape at inner) = do
    shape ← elaborated_shape scope inner
    gives (core.ExitShape shape)
  elaborated_shape scope (BoxShape at inner) = do
    content ← elaborated_type scope inner
    gives (core.BoxShape content.shape content.set)
  elaborated_shape scope (ParenthesizedShape at inner) = elaborated_shape scope inner
  elaborated_shape scope (FunctionShape at parameter from to) = do
    takes ← elaborated_type scope from
    result ← elaborated_type (under (TermBinder parameter) scope) to
    gives (core.FunctionShape takes.shape takes.set result.shape result.set)
  elaborated_shape scope (TypeFunctionShape at parameter below to) = do
    bound ← elaborated_shape scope below
    result ← elaborated_type (under (TypeBinder parameter) scope) to
    gives (core.TypeFunctionShape bound result.shape result.set)

  -- a type whose set may not be omitted
  pub elaborated_type : Scope → TypeSyntax → Step core.CapturingType
  elaborated_type scope (CapturingType at inner captures) = do
    shape ← elaborated_shape scope inner
    set ← elaborated_set scope captures
    gives (capturing shape set)

-- the type of a parameter
abbrev pub parameter_type : Scope → TypeSyntax → Step core.CapturingType
parameter_type scope (CapturingType at inner captures) = do
  shape ← elaborated_shape scope inner
  set ← parameter_set scope captures
  gives (capturing shape set)

-- what is written for the type of a term, where something has to be
abbrev pub elaborated_note : Scope → TypeSyntax → Step Note
elaborated_note scope (CapturingType at inner captures) = do
  shape ← elaborated_shape scope inner
  noted_set scope shape captures

-- what is written for the type of a term, which may be nothing
abbrev pub optional_note : Scope → Option TypeSyntax → Step Note
optional_note scope None = gives Absent
optional_note scope (Some written) = elaborated_note scope written

-- the same where a set that is written may not be omitted
abbrev pub optional_type : Scope → Option TypeSyntax → Step Note
optional_type scope None = gives Absent
optional_type scope (Some written) = do
  type ← elaborated_type scope written
  gives (Written type.shape type.set)

-- the set of an unboxing, which may be omitted
abbrev pub optional_elements : Scope → Option (List ElementSyntax) → Step (Option Set)
optional_elements scope None = gives None
optional_elements scope (Some elements) = do
  set ← elaborated_elements scope elements
  gives (Some set)
