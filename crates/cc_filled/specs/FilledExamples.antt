-- Worked terms: what may be filled in, and what may not.
use Rattle.std.specs.Prelude.{Some, None}
use Rattle.cc_base.specs.declared.literal.Base.TheVariants as bases
use Rattle.cc_base.specs.Literals.{UnitLiteral}
use Rattle.cc_capture.specs.declared.var.Var.TheVariants.{Bound, Free}
use Rattle.cc_capture.specs.declared.var.Elem.TheVariants.{Var as Variable, Cap, Hole}
use Rattle.cc_capture.specs.Sets.{Set, empty}
use Rattle.cc_core.specs.Shapes.{Shape, BaseShape, AnyShape}
use Rattle.cc_core.specs.Substitution.{single}
use Rattle.cc_core.specs.Terms.{Term, Absent, Written, Own, VariableTerm, LiteralTerm, FunctionTerm, Unboxing, Let}
use Rattle.cc_core.specs.Terms.{Conditional, Boundary}
use Rattle.cc_filled.specs.FilledTerms.{IsFilledAs}

-- the set of a device, that of an omitted set, and a shape
abbrev pub of_device : Set
of_device = single (Variable (Free 0))

abbrev pub omitted : Set
omitted = single (Hole 0)

abbrev pub number : Shape
number = BaseShape bases.Int

-- a function with a parameter of the set, which gives the parameter
abbrev pub function_over : Set → Term
function_over set = FunctionTerm number set (VariableTerm (Bound 0))

-- a name for a parameter of an outer function, and what is behind it
abbrev pub with_note : Set → Term
with_note set = Let (Written number set) (VariableTerm (Bound 0)) (VariableTerm (Bound 0))

-- what stands in a text, and what it may be filled in as
pub record FilledIn : Type 0 where
  pub parameter : IsFilledAs (function_over omitted) (function_over of_device)
  pub another_set : IsFilledAs (function_over omitted) (function_over (single Cap))
  pub no_set : IsFilledAs (function_over omitted) (function_over empty)
  pub written_set : IsFilledAs (function_over of_device) (function_over of_device)
  pub note : IsFilledAs (Let (Own number) (VariableTerm (Bound 0)) (VariableTerm (Bound 0))) (with_note of_device)
  pub written_note : IsFilledAs (with_note of_device) (with_note of_device)
  pub no_note : IsFilledAs
      (Let Absent (VariableTerm (Bound 0)) (function_over omitted))
      (Let Absent (VariableTerm (Bound 0)) (function_over of_device))
  pub choice : IsFilledAs
      (Conditional (Own number) (Bound 0) (VariableTerm (Bound 1)) (VariableTerm (Bound 2)))
      (Conditional (Written number of_device) (Bound 0) (VariableTerm (Bound 1)) (VariableTerm (Bound 2)))
  pub opened : IsFilledAs (Unboxing None (Bound 0)) (Unboxing (Some of_device) (Bound 0))
  pub written_opened : IsFilledAs (Unboxing (Some of_device) (Bound 0)) (Unboxing (Some of_device) (Bound 0))
  pub inside : IsFilledAs (Boundary number (function_over omitted)) (Boundary number (function_over of_device))

-- what stands in a text, and what it may not be filled in as
pub record NotFilledIn : Type 0 where
  -- a set that is written is not another one, and is not left out
  pub another_set : IsFilledAs (function_over of_device) (function_over (single Cap)) → ⊥
  pub no_set : IsFilledAs (function_over of_device) (function_over empty) → ⊥
  pub still_omitted : IsFilledAs (function_over of_device) (function_over omitted) → ⊥
  -- a set is filled in, and no shape
  pub another_shape : IsFilledAs (function_over omitted) (FunctionTerm AnyShape of_device (VariableTerm (Bound 0))) → ⊥
  pub another_note : IsFilledAs (with_note of_device) (with_note empty) → ⊥
  -- a type that is not written is not written afterwards
  pub new_note : IsFilledAs (Let Absent (VariableTerm (Bound 0)) (VariableTerm (Bound 0))) (with_note of_device) → ⊥
  pub lost_note : IsFilledAs (with_note of_device) (Let Absent (VariableTerm (Bound 0)) (VariableTerm (Bound 0))) → ⊥
  pub another_opened : IsFilledAs (Unboxing (Some of_device) (Bound 0)) (Unboxing (Some empty) (Bound 0)) → ⊥
  pub not_opened : IsFilledAs (Unboxing None (Bound 0)) (Unboxing None (Bound 0)) → ⊥
  pub another_variable : IsFilledAs (VariableTerm (Bound 0)) (VariableTerm (Bound 1)) → ⊥
  pub another_form : IsFilledAs (VariableTerm (Bound 0)) (LiteralTerm UnitLiteral) → ⊥
  pub another_body : IsFilledAs (function_over omitted) (FunctionTerm number omitted (LiteralTerm UnitLiteral)) → ⊥
