-- Whether a shape, which is read in the context where it stands, is a type variable.
use Rattle.std.specs.Prelude.{ℕ, zero, Bool, false}
use Rattle.cc_capture.specs.declared.var.Var.{Var}
use Rattle.cc_capture.specs.Variables.{same_variable}
use Rattle.cc_core.specs.Shapes.{Shape, TypeVariable}
use Rattle.cc_core.specs.Reading.{read_variable}

-- whether the shape is the type variable
abbrev pub is_variable : ℕ → Var → Shape → Bool
is_variable entries variable (TypeVariable other) = same_variable variable (read_variable entries zero other)
is_variable entries variable _ = false
