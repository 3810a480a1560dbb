-- How the holes of elaborated definitions are numbered.
use Rattle.std.specs.Prelude.{ℕ, List, [], ◌∷◌, ◌++◌}
use Rattle.std.specs.List.{flat_map}
use Rattle.cc_capture.specs.declared.var.Elem.{Elem}
use Rattle.cc_capture.specs.declared.var.Elem.TheVariants.{Var as Variable, Cap, Hole}
use Rattle.cc_capture.specs.Sets.{Set}
use Rattle.cc_core.specs.Terms.{Term, FunctionTerm, TypeFunctionTerm, Let, Conditional, Boundary}

-- the number of an element that is a hole
abbrev pub hole_number : Elem → List ℕ
hole_number (Variable variable) = []
hole_number Cap = []
hole_number (Hole number) = number ∷ []

-- the numbers of the holes in a set
abbrev pub hole_numbers : Set → List ℕ
hole_numbers set = flat_map hole_number set.list

-- The numbers of the holes in the sets of a term's parameters, in the order of the term.
abbrev pub parameter_holes : Term → List ℕ
parameter_holes (FunctionTerm takes c body) = hole_numbers c ++ parameter_holes body
parameter_holes (TypeFunctionTerm bound body) = parameter_holes body
parameter_holes (Let note right body) = parameter_holes right ++ parameter_holes body
parameter_holes (Conditional note test positive negative) = parameter_holes positive ++ parameter_holes negative
parameter_holes (Boundary gives body) = parameter_holes body
parameter_holes _ = []
