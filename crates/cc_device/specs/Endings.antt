-- What is shown of a run: the value that it ends with, and how it ends.
use Rattle.std.specs.Prelude.{ℕ}
use Rattle.cc_base.specs.Literals.{Literal}

-- What is shown of a value: a literal as it is, of a device its number, of an exit the label of its boundary, and of
-- functions, type functions and boxes only that they are such.
pub data Shown : Type 0 where
  ShownLiteral : (literal : Literal) → Shown
  ShownFunction : Shown
  ShownTypeFunction : Shown
  ShownBox : Shown
  ShownDevice : (device : ℕ) → Shown
  ShownLabel : (label : ℕ) → Shown

-- a run comes to its end with a value, or it has no fuel left
pub data End : Type 0 where
  Done : (shown : Shown) → End
  OutOfFuel : End
