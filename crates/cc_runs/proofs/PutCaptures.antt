-- What bodies capture where a position or a shape is put in.
use Rattle.std.proofs.Common.{◌≡◌, ◌⊎◌, ℕ, zero, suc, inl, inr, sym, ap, ◌∙◌, subst, arith}
use Rattle.cc_capture.specs.declared.var.Var.TheVariants.{Bound, Free}
use Rattle.cc_capture.specs.declared.var.Elem.{Elem}
use Rattle.cc_capture.specs.declared.var.Elem.TheVariants.{Var as Variable, Cap, Hole}
use Rattle.cc_capture.specs.Sets.{Set, Member}
use Rattle.cc_capture.proofs.Membership.{Member-flat_image}
use Rattle.cc_core.specs.Shapes.{Shape}
use Rattle.cc_core.specs.Terms.{Term}
use Rattle.cc_core.specs.Traversal.{act_term}
use Rattle.cc_core.specs.Substitution.{single, moved_element, put_variable, putting, putting_shape}
use Rattle.cc_core.specs.Captured.{outside, without_binder, captured_variables}
use Rattle.cc_core.proofs.Moving.{Member-single, Member-single_itself}
use Rattle.cc_core.proofs.Opening.{put_variable-other}
use Rattle.cc_core.proofs.CapturedActions.{captured_variables-act, PassesBinders-putting, captured_variables-putting_shape}

-- What a body captures with a position for its variable is that position, or captured outside the binder too.
pub captured_when_put : (q p : ℕ) (t : Term) → Member (Variable (Free p)) (captured_variables (act_term (putting (Free q)) zero t))
    → ((p ≡ q) × Member (Variable (Bound zero)) (captured_variables t)) ⊎ Member (Variable (Free p)) (without_binder (captured_variables t))
captured_when_put q p t h =
    let there = subst (Member (Variable (Free p))) (captured_variables-act (putting (Free q)) (PassesBinders-putting q) zero t) h in
    let from = (Member-flat_image ((putting (Free q)).element zero) (Variable (Free p)) (captured_variables t)).0 there in
    by_cases from.0 from.1 (Member-single (Variable (Free p)) (moved_element (put_variable (Free q) zero) from.0) from.2)
  where
    by_cases : (x : Elem) → Member x (captured_variables t) → Variable (Free p) ≡ moved_element (put_variable (Free q) zero) x
        → ((p ≡ q) × Member (Variable (Bound zero)) (captured_variables t)) ⊎ Member (Variable (Free p)) (without_binder (captured_variables t))
    by_cases (Variable (Bound zero)) m e = inl (cc, m)
    by_cases (Variable (Bound (suc i))) m e =
        let put = put_variable-other (Free q) zero (suc i) (λ k. omega arith) in
        let clash : Variable (Free p) ≡ Variable (Bound (suc i)) = e ∙ ap (λ v. Variable v) put in cc
    by_cases (Variable (Free r)) m e =
        inr ((Member-flat_image outside (Variable (Free p)) (captured_variables t)).1 (Variable (Free r), m, subst (λ y. Member y (single (Variable (Free r)))) (sym e) (Member-single_itself (Variable (Free r)))))
    by_cases Cap m e = cc
    by_cases (Hole n) m e = cc

-- free positions are the same inside a binder and outside it
pub free_outside : (p : ℕ) (c : Set) → Member (Variable (Free p)) c → Member (Variable (Free p)) (without_binder c)
free_outside p c m = (Member-flat_image outside (Variable (Free p)) c).1 (Variable (Free p), m, Member-single_itself (Variable (Free p)))

-- putting a shape changes nothing that is captured
pub captured_when_shape_put : (by : Shape) (t : Term) → captured_variables (act_term (putting_shape by) zero t) ≡ captured_variables t
captured_when_shape_put by t = captured_variables-putting_shape by zero t
