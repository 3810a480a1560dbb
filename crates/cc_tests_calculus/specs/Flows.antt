-- What it asks that an element flows into a hole.
use Rattle.std.specs.Prelude.{ℕ, []}
use Rattle.cc_capture.specs.declared.var.Elem.{Elem}
use Rattle.cc_capture.specs.declared.var.Elem.TheVariants.{Hole}
use Rattle.cc_core.specs.Substitution.{single}
use Rattle.cc_checking.specs.Comparison.{demanded}
use Rattle.cc_checking.specs.Outcomes.{Asked, IsBelow}

-- the element is below the hole, where there is no variable
abbrev pub flow : Elem → ℕ → Asked
flow from hole = IsBelow (demanded [] (single from) (single (Hole hole)))
