-- One level of the derivation of shapes, which serves proofs.
use Rattle.std.specs.Prelude.{if◌then◌else◌}
use Rattle.cc_core.specs.Equality.{same_shape}
use Rattle.cc_core.specs.Contexts.{Context}
use Rattle.cc_core.specs.Derivations.{ByTop, ShapeBelow, Derivation, Node, NoPremise}
use Rattle.cc_core.specs.Shapes.{Shape}
use Rattle.cc_checking.specs.CanonicalDerivations.{Deriving, alike_derived, form_derived}
use Rattle.cc_checking.specs.Comparison.{is_any}

-- two shapes, where it is given how the shapes in them are derived
abbrev pub step_derived : Deriving → Context → Shape → Shape → Derivation
step_derived derive context left right =
    if same_shape left right then alike_derived left right
    else if is_any right then Node ByTop NoPremise (ShapeBelow left right)
    else form_derived derive context left right
