-- What becomes of an element of a claim.
use Rattle.std.proofs.Common.{◌≡◌, ℕ, refl, ap, sym, ◌∙◌}
use Rattle.cc_capture.specs.declared.var.Var.{Var}
use Rattle.cc_capture.specs.declared.var.Elem.{Elem}
use Rattle.cc_capture.specs.declared.var.Elem.TheVariants.{Var as Variable, Cap, Hole}
use Rattle.cc_core.specs.Substitution.{single}
use Rattle.cc_certificate_judging.specs.Judging.{read_variable, reading}

pub variable_is_read : (names locals depth : ℕ) (v : Var) → single (Variable (read_variable names locals depth v)) ≡ (reading names locals).element depth (Variable v)
variable_is_read names locals depth v = refl

pub cap_is_read : (names locals depth : ℕ) (e : Elem) → e ≡ Cap → single e ≡ (reading names locals).element depth e
cap_is_read names locals depth e is = ap single is ∙ ap ((reading names locals).element depth) (sym is)

pub hole_is_read : (names locals depth : ℕ) (e : Elem) (hole : ℕ) → e ≡ Hole hole → single e ≡ (reading names locals).element depth e
hole_is_read names locals depth e hole is = ap single is ∙ ap ((reading names locals).element depth) (sym is)
