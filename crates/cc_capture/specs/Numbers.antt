-- The number of each element: elements rise as their numbers do.
use Rattle.std.specs.Prelude.{ℕ, ◌+◌, ◌-◌, cond, ltb, eqb}
use Rattle.cc_capture.specs.declared.var.Var.TheVariants.{Bound, Free}
use Rattle.cc_capture.specs.declared.var.Elem.{Elem}
use Rattle.cc_capture.specs.declared.var.Elem.TheVariants.{Var as Variable, Cap, Hole}

-- free variables have the numbers below 2 ^ 32, and bound ones those from there to 2 ^ 33, the outermost first; 2 ^ 33
-- is the number of the universal capability, and holes have the numbers after it
unfoldable pub element_number : Elem → ℕ
element_number (Variable (Free position)) = position
element_number (Variable (Bound index)) = 8589934591 - index
element_number Cap = 8589934592
element_number (Hole number) = 8589934593 + number

-- the element that has the number
unfoldable pub element_at : ℕ → Elem
element_at n =
    cond (ltb n 4294967296) (Variable (Free n))
    (cond (ltb n 8589934592) (Variable (Bound (8589934591 - n)))
    (cond (eqb n 8589934592) Cap (Hole (n - 8589934593))))
