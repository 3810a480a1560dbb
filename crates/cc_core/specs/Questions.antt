-- Whether something occurs in shapes and types: a free position, or a hole.
use Rattle.std.specs.Prelude.{Bool, true, false, ◌||◌}
use Rattle.cc_capture.specs.declared.var.Var.{Var}
use Rattle.cc_capture.specs.declared.var.Elem.{Elem}
use Rattle.cc_capture.specs.declared.var.Elem.TheVariants.{Var as Variable, Cap, Hole}
use Rattle.cc_capture.specs.Sets.{Set}
use Rattle.cc_core.specs.Shapes.{Shape, BaseShape, AnyShape, TypeVariable, FunctionShape, TypeFunctionShape, BoxShape}
use Rattle.cc_core.specs.Shapes.{ExitShape, CapturingType}

-- what is asked of a set, and of a variable that is a type variable or stands in a term
pub record Question : Type 0 where
  pub in_set : Set → Bool
  pub at : Var → Bool

-- whether an element is a hole
abbrev pub is_hole : Elem → Bool
is_hole (Variable variable) = false
is_hole Cap = false
is_hole (Hole number) = true

-- whether the answer is yes somewhere in the shape
abbrev pub occurs : Question → Shape → Bool
occurs question (BaseShape base) = false
occurs question AnyShape = false
occurs question (TypeVariable variable) = question.at variable
occurs question (FunctionShape takes c gives e) =
    (occurs question takes || question.in_set c) || (occurs question gives || question.in_set e)
occurs question (TypeFunctionShape bound gives e) =
    occurs question bound || (occurs question gives || question.in_set e)
occurs question (BoxShape content c) = occurs question content || question.in_set c
occurs question (ExitShape gives) = occurs question gives

-- the same of a type
abbrev pub occurs_in_type : Question → CapturingType → Bool
occurs_in_type question type = occurs question type.shape || question.in_set type.set
