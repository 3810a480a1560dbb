-- Tests of equality of shapes and types.
use Rattle.std.specs.Prelude.{◌≡◌, ◌↔◌, ℕ, Bool, true, false, ◌&&◌, nat_eq}
use Rattle.cc_base.specs.declared.literal.Base.{Base}
use Rattle.cc_base.specs.declared.literal.Base.TheVariants as bases
use Rattle.cc_capture.specs.Variables.{same_variable}
use Rattle.cc_capture.specs.Sets.{same_set}
use Rattle.cc_core.specs.Shapes.{Shape, BaseShape, AnyShape, TypeVariable, FunctionShape, TypeFunctionShape, BoxShape}
use Rattle.cc_core.specs.Shapes.{ExitShape, CapturingType}

-- a number for each base shape
abbrev pub base_number : Base → ℕ
base_number bases.Unit = 0
base_number bases.Bool = 1
base_number bases.Int = 2
base_number bases.Str = 3
base_number bases.Console = 4
base_number bases.File = 5
base_number bases.Counter = 6

-- whether two shapes have the same form and the same parts
abbrev pub same_shape : Shape → Shape → Bool
same_shape (BaseShape base) (BaseShape other) = nat_eq (base_number base) (base_number other)
same_shape AnyShape AnyShape = true
same_shape (TypeVariable variable) (TypeVariable other) = same_variable variable other
same_shape (FunctionShape takes c gives e) (FunctionShape takes' c' gives' e') =
    (same_shape takes takes' && same_set c c') && (same_shape gives gives' && same_set e e')
same_shape (TypeFunctionShape bound gives e) (TypeFunctionShape bound' gives' e') =
    same_shape bound bound' && (same_shape gives gives' && same_set e e')
same_shape (BoxShape content c) (BoxShape content' c') = same_shape content content' && same_set c c'
same_shape (ExitShape gives) (ExitShape gives') = same_shape gives gives'
same_shape _ _ = false

-- whether two types have the same shape and the same set
abbrev pub same_type : CapturingType → CapturingType → Bool
same_type left right = same_shape left.shape right.shape && same_set left.set right.set

-- the test of shapes says whether they are one
abbrev pub SameShapeDecides : Type 0
SameShapeDecides = (a b : Shape) → (same_shape a b ≡ true) ↔ (a ≡ b)

-- the test of types says whether they are one
abbrev pub SameTypeDecides : Type 0
SameTypeDecides = (a b : CapturingType) → (same_type a b ≡ true) ↔ (a ≡ b)
