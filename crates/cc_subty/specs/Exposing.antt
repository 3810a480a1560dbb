-- The bound of a shape.
use Rattle.std.specs.Prelude.{Option, None}
use Rattle.cc_core.specs.Shapes.{Shape, TypeVariable}
use Rattle.cc_core.specs.Contexts.{Context}
use Rattle.cc_checking.specs.Comparison.{bound_of}

-- the bound of a shape that is a type variable
abbrev pub shape_bound : Context → Shape → Option Shape
shape_bound context (TypeVariable variable) = bound_of context variable
shape_bound context _ = None
