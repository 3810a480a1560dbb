-- The elements of capture sets, and their order.
use Rattle.std.specs.Prelude.{ℕ, Bool}
use Rattle.std.specs.declared.cmp.Ordering.{Ordering}
use Rattle.std.specs.Ordering.{nat_cmp, on, then_cmp, flip_args, eq_by_cmp}
use Rattle.cc_capture.specs.declared.var.Var.TheVariants.{Bound, Free}
use Rattle.cc_capture.specs.declared.var.Elem.{Elem}
use Rattle.cc_capture.specs.declared.var.Elem.TheVariants.{Var as Variable, Cap, Hole}

-- free variables come first, then bound ones, then the universal capability, then holes
abbrev pub kind_number : Elem → ℕ
kind_number (Variable (Free position)) = 0
kind_number (Variable (Bound index)) = 1
kind_number Cap = 2
kind_number (Hole number) = 3

-- the number by which elements of one kind rise: a free variable's position, or the number of a hole
abbrev pub rising_number : Elem → ℕ
rising_number (Variable (Free position)) = position
rising_number (Variable (Bound index)) = 0
rising_number Cap = 0
rising_number (Hole number) = number

-- the number by which elements of one kind fall: a bound variable's index, so that the outermost binder comes first
abbrev pub falling_number : Elem → ℕ
falling_number (Variable (Free position)) = 0
falling_number (Variable (Bound index)) = index
falling_number Cap = 0
falling_number (Hole number) = 0

-- how two elements compare: by their kinds, then by the rising numbers, then by the falling ones
unfoldable pub element_order : Elem → Elem → Ordering
element_order =
    then_cmp (on kind_number nat_cmp) (then_cmp (on rising_number nat_cmp) (flip_args (on falling_number nat_cmp)))

-- whether the two compare as equal, which they do exactly where they are one element
unfoldable pub same_element : Elem → Elem → Bool
same_element = eq_by_cmp element_order
