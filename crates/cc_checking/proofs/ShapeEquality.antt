-- The test of equality of shapes, in the two ways in which it is used.
use Rattle.std.proofs.Common.{◌≡◌, true, refl}
use Rattle.cc_core.specs.Shapes.{Shape}
use Rattle.cc_core.specs.Equality.{same_shape}
use Rattle.cc_core.proofs.Comparisons.{same_shape-decides}

pub same_shape-true : (left right : Shape) → same_shape left right ≡ true → left ≡ right
same_shape-true left right same = (same_shape-decides left right).0 same

pub same_shape-itself : (shape : Shape) → same_shape shape shape ≡ true
same_shape-itself shape = (same_shape-decides shape shape).1 refl
