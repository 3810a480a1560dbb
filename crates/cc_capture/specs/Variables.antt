-- When two variables are one.
use Rattle.std.specs.Prelude.{Bool, false, nat_eq}
use Rattle.cc_capture.specs.declared.var.Var.{Var}
use Rattle.cc_capture.specs.declared.var.Var.TheVariants.{Bound, Free}

-- whether both are bound with one index, or both are free at one position
unfoldable pub same_variable : Var → Var → Bool
same_variable (Bound index) (Bound other) = nat_eq index other
same_variable (Free position) (Free other) = nat_eq position other
same_variable (Bound index) (Free other) = false
same_variable (Free position) (Bound other) = false
