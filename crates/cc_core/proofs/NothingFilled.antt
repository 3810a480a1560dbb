-- Where there is nothing to put into holes, notes and terms stay.
use Rattle.std.proofs.Common.{◌≡◌, true, List, [], ◌∷◌, length, refl, ap, ◌∙◌, arith}
use Rattle.std.specs.Prelude.{nat_eq}
use Rattle.std.proofs.lemmas.Bool.{eqb-true}
use Rattle.cc_capture.specs.declared.var.Elem.{Elem}
use Rattle.cc_capture.specs.declared.var.Elem.TheVariants.{Var as Variable, Cap, Hole}
use Rattle.cc_capture.specs.Sets.{Set}
use Rattle.cc_core.specs.Actions.{filled_by}
use Rattle.cc_core.specs.Terms.{Note, Term}
use Rattle.cc_core.specs.Traversal.{act_note, act_term, keeping}
use Rattle.cc_core.specs.Substitution.{single, filled_element, filling_in, filled_term}
use Rattle.cc_core.proofs.Actions.{same_actions}
use Rattle.cc_core.proofs.TermActions.{act_note-keeping, act_term-keeping}

element_kept : (e : Elem) → filled_element (filled_by []) e ≡ single e
element_kept (Variable v) = refl
element_kept Cap = refl
element_kept (Hole n) = refl

filling_nothing : (sets : List Set) → nat_eq (length sets) 0 ≡ true → filling_in (filled_by sets) ≡ keeping
filling_nothing [] h =
    same_actions (filling_in (filled_by [])) keeping (λ d e. element_kept e) (λ d v. refl) (λ d v. refl)
filling_nothing (s ∷ sets) h =
    let e : length (s ∷ sets) ≡ 0 = eqb-true (length (s ∷ sets)) 0 h in absurd (omega arith)

pub filled_note-nothing : (sets : List Set) (n : Note) → nat_eq (length sets) 0 ≡ true
    → act_note (filling_in (filled_by sets)) 0 n ≡ n
filled_note-nothing sets n h = ap (λ f. act_note f 0 n) (filling_nothing sets h) ∙ act_note-keeping 0 n

pub filled_term-nothing : (sets : List Set) (t : Term) → nat_eq (length sets) 0 ≡ true
    → filled_term (filled_by sets) t ≡ t
filled_term-nothing sets t h = ap (λ f. act_term f 0 t) (filling_nothing sets h) ∙ act_term-keeping 0 t
