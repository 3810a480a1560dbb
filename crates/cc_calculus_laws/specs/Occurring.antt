-- Which elements occur in a term outside boxes: as operands, or in a set under which a box is opened.
use Rattle.std.specs.Prelude.{◌≡◌, ◌⊎◌, zero, suc, Some}
use Rattle.cc_base.specs.Literals.{Literal}
use Rattle.cc_capture.specs.declared.var.Var.{Var}
use Rattle.cc_capture.specs.declared.var.Var.TheVariants.{Bound, Free}
use Rattle.cc_capture.specs.declared.var.Elem.{Elem}
use Rattle.cc_capture.specs.declared.var.Elem.TheVariants.{Var as Variable, Cap, Hole}
use Rattle.cc_capture.specs.Sets.{Set, Member}
use Rattle.cc_core.specs.Shapes.{Shape}
use Rattle.cc_core.specs.Terms.{Note, Term, VariableTerm, LiteralTerm, FunctionTerm, TypeFunctionTerm, BoxTerm}
use Rattle.cc_core.specs.Terms.{Application, TypeApplication, Unboxing, Let, Primitive, Conditional, Repetition}
use Rattle.cc_core.specs.Terms.{Operation, Boundary, Leave}

-- an element as it stands under one more binder
abbrev pub under_binder : Elem → Elem
under_binder (Variable (Bound index)) = Variable (Bound (suc index))
under_binder (Variable (Free position)) = Variable (Free position)
under_binder Cap = Cap
under_binder (Hole number) = Hole number

-- The variable is an operand of the term: it stands in it by itself, in no part of it. The content of a box is none.
abbrev pub IsOperand : Var → Term → Type 0
IsOperand variable (VariableTerm itself) = variable ≡ itself
IsOperand variable (LiteralTerm literal) = ⊥
IsOperand variable (FunctionTerm takes c body) = ⊥
IsOperand variable (TypeFunctionTerm bound body) = ⊥
IsOperand variable (BoxTerm content) = ⊥
IsOperand variable (Application function argument) = (variable ≡ function) ⊎ (variable ≡ argument)
IsOperand variable (TypeApplication function argument) = variable ≡ function
IsOperand variable (Unboxing set box) = variable ≡ box
IsOperand variable (Let note right body) = ⊥
IsOperand variable (Primitive operator left right) = (variable ≡ left) ⊎ (variable ≡ right)
IsOperand variable (Conditional note test positive negative) = variable ≡ test
IsOperand variable (Repetition count function) = (variable ≡ count) ⊎ (variable ≡ function)
IsOperand variable (Operation operation receiver argument) = (variable ≡ receiver) ⊎ (argument ≡ Some variable)
IsOperand variable (Boundary gives body) = ⊥
IsOperand variable (Leave gives c exit value) = (variable ≡ exit) ⊎ (variable ≡ value)

-- the body stands in the term under its binder
pub data IsBody (body : Term) : Term → Type 0 where
  of_function : {takes : Shape} {c : Set} → IsBody body (FunctionTerm takes c body)
  of_type_function : {bound : Shape} → IsBody body (TypeFunctionTerm bound body)
  of_let : {note : Note} {right : Term} → IsBody body (Let note right body)
  of_boundary : {gives : Shape} → IsBody body (Boundary gives body)

-- the part is a branch of the term, under no binder
pub data IsBranch (part : Term) : Term → Type 0 where
  positive : {note : Note} {test : Var} {other : Term} → IsBranch part (Conditional note test part other)
  negative : {note : Note} {test : Var} {other : Term} → IsBranch part (Conditional note test other part)

-- the term is a value
pub data IsValue : Term → Type 0 where
  literal : {value : Literal} → IsValue (LiteralTerm value)
  function : {takes : Shape} {c : Set} {body : Term} → IsValue (FunctionTerm takes c body)
  type_function : {bound : Shape} {body : Term} → IsValue (TypeFunctionTerm bound body)
  box : {content : Var} → IsValue (BoxTerm content)

-- The element occurs in the term outside boxes, as it stands outside the binders that are passed on the way: as an
-- operand, in the set under which a box is opened, in a body or a branch, or in the right side of a let. A right side
-- that is a value counts only where the body uses its variable in this sense.
pub data OccursOutsideBoxes : Term → Elem → Type 0 where
  as_operand : {term : Term} {variable : Var} → IsOperand variable term → OccursOutsideBoxes term (Variable variable)
  in_opening_set : {set : Set} {opened : Var} {e : Elem} → Member e set
      → OccursOutsideBoxes (Unboxing (Some set) opened) e
  in_body : {term body : Term} {e : Elem} → IsBody body term → OccursOutsideBoxes body (under_binder e)
      → OccursOutsideBoxes term e
  in_branch : {term part : Term} {e : Elem} → IsBranch part term → OccursOutsideBoxes part e
      → OccursOutsideBoxes term e
  in_right_side : {note : Note} {right body : Term} {e : Elem}
      → (IsValue right → OccursOutsideBoxes body (Variable (Bound zero))) → OccursOutsideBoxes right e
      → OccursOutsideBoxes (Let note right body) e
