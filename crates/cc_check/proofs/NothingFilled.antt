-- Where there is nothing to put into holes, a type stays.
use Rattle.std.proofs.Common.{◌≡◌, true, List, [], ◌∷◌, length, refl, ap, ◌∙◌, arith}
use Rattle.std.specs.Prelude.{nat_eq}
use Rattle.std.proofs.lemmas.Bool.{eqb-true}
use Rattle.cc_capture.specs.declared.var.Elem.{Elem}
use Rattle.cc_capture.specs.declared.var.Elem.TheVariants.{Var as Variable, Cap, Hole}
use Rattle.cc_capture.specs.Sets.{Set}
use Rattle.cc_core.specs.Actions.{filled_by}
use Rattle.cc_core.specs.Shapes.{CapturingType}
use Rattle.cc_core.specs.Traversal.{act_type, keeping}
use Rattle.cc_core.specs.Substitution.{single, filled_element, filling_in, filled_type}
use Rattle.cc_core.proofs.Actions.{same_actions, act_type-keeping}

element_kept : (e : Elem) → filled_element (filled_by []) e ≡ single e
element_kept (Variable v) = refl
element_kept Cap = refl
element_kept (Hole n) = refl

pub filled_type-nothing : (sets : List Set) (t : CapturingType) → nat_eq (length sets) 0 ≡ true
    → filled_type (filled_by sets) t ≡ t
filled_type-nothing [] t h =
    ap (λ f. act_type f 0 t)
    (same_actions (filling_in (filled_by [])) keeping (λ d e. element_kept e) (λ d v. refl) (λ d v. refl))
    ∙ act_type-keeping 0 t
filled_type-nothing (s ∷ sets) t h =
    let e : length (s ∷ sets) ≡ 0 = eqb-true (length (s ∷ sets)) 0 h in absurd (omega arith)
