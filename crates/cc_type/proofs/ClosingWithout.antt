-- Closing a position leaves a type in which the position does not occur.
use Rattle.std.proofs.Common.{◌≡◌, ◌≢◌, ℕ, refl, ap, ◌∙◌}
use Rattle.std.specs.Prelude.{nat_eq}
use Rattle.std.proofs.lemmas.Bool.{cond-false, ne_eqb}
use Rattle.cc_capture.specs.declared.var.Var.{Var}
use Rattle.cc_capture.specs.declared.var.Var.TheVariants.{Bound, Free}
use Rattle.cc_capture.specs.declared.var.Elem.{Elem}
use Rattle.cc_capture.specs.declared.var.Elem.TheVariants.{Var as Variable, Cap, Hole}
use Rattle.cc_core.specs.Shapes.{TypeVariable, CapturingType}
use Rattle.cc_core.specs.Traversal.{keeping}
use Rattle.cc_core.specs.Substitution.{single, moved_element, closed_variable, closing, closed_type}
use Rattle.cc_core.specs.Occurrences.{agreement, MeetsInType, IsAskedOf, without}
use Rattle.cc_core.proofs.Actions.{act_type-congruent, act_type-keeping}
use Rattle.cc_core.proofs.Conditions.{GivesHere, MeetsInType-here}

variable_stays : (p d : ℕ) (v : Var) → v ≢ Free p → closed_variable p d v ≡ v
variable_stays p d (Bound i) h = refl
variable_stays p d (Free q) h = cond-false (nat_eq q p) (Bound d) (Free q) (ne_eqb q p (λ e. h (ap Free e)))

element_stays : (p d : ℕ) (x : Elem) → IsAskedOf (λ v. v ≢ Free p) x
    → single (moved_element (closed_variable p d) x) ≡ single x
element_stays p d (Variable v) h = ap (λ w. single (Variable w)) (variable_stays p d v h)
element_stays p d Cap h = refl
element_stays p d (Hole n) h = refl

closing_stays : (p : ℕ) → GivesHere (without p) (agreement (closing p) keeping)
closing_stays p =
    record {
      element = λ d x m. element_stays p d x m;
      shape = λ d v m. ap TypeVariable (variable_stays p d v m);
      variable = λ d v m. variable_stays p d v m;
    }

pub closed_type-without : (p : ℕ) (t : CapturingType) → MeetsInType (without p) 0 t → closed_type p t ≡ t
closed_type-without p t m =
    act_type-congruent (closing p) keeping 0 t
    (MeetsInType-here (without p) (agreement (closing p) keeping) (closing_stays p) 0 t m)
    ∙ act_type-keeping 0 t
