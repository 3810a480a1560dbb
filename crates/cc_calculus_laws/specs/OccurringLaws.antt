-- The laws of what occurs in a term outside boxes.
use Rattle.std.specs.Prelude.{◌≡◌, ◌↔◌, ℕ, true}
use Rattle.cc_capture.specs.declared.var.Var.TheVariants.{Free}
use Rattle.cc_capture.specs.declared.var.Elem.{Elem}
use Rattle.cc_capture.specs.declared.var.Elem.TheVariants.{Var as Variable}
use Rattle.cc_capture.specs.Sets.{Set, Member}
use Rattle.cc_core.specs.Shapes.{Shape}
use Rattle.cc_core.specs.Terms.{Term, FunctionTerm}
use Rattle.cc_core.specs.Captured.{is_value, captured_variables}
use Rattle.cc_calculus_laws.specs.Occurring.{IsValue, OccursOutsideBoxes}

-- a term captures an element exactly where it occurs in it outside boxes
abbrev pub CapturedWhereItOccurs : Type 0
CapturedWhereItOccurs = (term : Term) (e : Elem) → Member e (captured_variables term) ↔ OccursOutsideBoxes term e

-- So a function captures a variable of its context exactly where that occurs in its body outside boxes.
abbrev pub ClosedOverWhereItOccurs : Type 0
ClosedOverWhereItOccurs =
    (takes : Shape) (c : Set) (body : Term) (position : ℕ)
    → Member (Variable (Free position)) (captured_variables (FunctionTerm takes c body))
    ↔ OccursOutsideBoxes body (Variable (Free position))

-- the test for values tells exactly these
abbrev pub ValuesAreTold : Type 0
ValuesAreTold = (term : Term) → (is_value term ≡ true) ↔ IsValue term
