-- The laws of exposing a shape.
use Rattle.std.specs.Prelude.{◌≡◌, ℕ, Some}
use Rattle.cc_capture.specs.declared.var.Var.{Var}
use Rattle.cc_capture.specs.declared.var.Var.TheVariants.{Free}
use Rattle.cc_core.specs.Shapes.{Shape, TypeVariable}
use Rattle.cc_core.specs.Contexts.{TypeEntry, Context, lookup}
use Rattle.cc_core.specs.WellFormed.{IsWellFormedShape, IsWellFormedContext}
use Rattle.cc_core.specs.Subtyping.{Subtypes}
use Rattle.cc_checking.specs.Exposing.{exposed}

-- a type variable is exposed to what its bound is exposed to
abbrev pub ExposingFollowsBounds : Type 0
ExposingFollowsBounds =
    (context : Context) (position : ℕ) (bound : Shape) → IsWellFormedContext context
    → lookup context position ≡ Some (TypeEntry bound)
    → exposed context (TypeVariable (Free position)) ≡ exposed context bound

-- in the end there is no type variable
abbrev pub ExposedIsNoVariable : Type 0
ExposedIsNoVariable =
    (context : Context) (shape : Shape) → IsWellFormedContext context → IsWellFormedShape context shape
    → (variable : Var) → exposed context shape ≡ TypeVariable variable → ⊥

-- what is no type variable stays as it is
abbrev pub OnlyVariablesAreExposed : Type 0
OnlyVariablesAreExposed =
    (context : Context) (shape : Shape) → ((variable : Var) → shape ≡ TypeVariable variable → ⊥)
    → exposed context shape ≡ shape

-- a shape is below what it is exposed to
abbrev pub ExposedIsAbove : Type 0
ExposedIsAbove = (context : Context) (shape : Shape) → Subtypes context shape (exposed context shape)
