-- Shapes that have no parts.
use Rattle.std.specs.Prelude.{Bool, true, false}
use Rattle.cc_core.specs.declared.types.Shape.{Shape}
use Rattle.cc_core.specs.declared.types.Shape.TheVariants as shapes

-- whether the shape has no parts
abbrev pub is_leaf : Shape → Bool
is_leaf (shapes.Base _) = true
is_leaf shapes.Any = true
is_leaf (shapes.TVar _) = true
is_leaf (shapes.Fun' _ _ _ _ _ _ _ _) = false
is_leaf (shapes.TFun' _ _ _ _ _ _) = false
is_leaf (shapes.Boxed' _ _ _ _) = false
is_leaf (shapes.Exit' _ _) = false
