-- The entries before a position, which serves proofs.
use Rattle.std.specs.Prelude.{ℕ, nat_lt, [], ◌∷◌, length, Option, Some, None, if◌then◌else◌}
use Rattle.cc_capture.specs.declared.var.Var.{Var}
use Rattle.cc_capture.specs.declared.var.Var.TheVariants.{Bound, Free}
use Rattle.cc_core.specs.Contexts.{Context}
use Rattle.cc_core.specs.Shapes.{Shape, TypeVariable}

-- the entries whose positions are below the limit
abbrev pub older : ℕ → Context → Context
older limit [] = []
older limit (newest ∷ rest) = if nat_lt (length rest) limit then newest ∷ rest else older limit rest

-- the position of a variable, if it is below the limit
abbrev pub older_position : Var → ℕ → Option ℕ
older_position (Free position) limit = if nat_lt position limit then Some position else None
older_position (Bound index) limit = None

-- the same of a shape, if it is a type variable
abbrev pub position_before : Shape → ℕ → Option ℕ
position_before (TypeVariable variable) limit = older_position variable limit
position_before _ limit = None
