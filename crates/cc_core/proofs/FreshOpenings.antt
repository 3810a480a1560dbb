-- What is opened at a fresh position, and acted on by an action that sends this position to a variable or to a shape, is
-- what was acted on with that variable or that shape put in.
use Rattle.std.proofs.Common.{◌≡◌, ◌≢◌, ℕ, ◌<◌, inl, inr, refl, sym, ap, ◌∙◌}
use Rattle.std.proofs.lemmas.Bool.{cases_eq, cond_both}
use Rattle.std.specs.Prelude.{nat_eq}
use Rattle.cc_capture.specs.declared.var.Var.{Var}
use Rattle.cc_capture.specs.declared.var.Var.TheVariants.{Bound, Free}
use Rattle.cc_capture.specs.declared.var.Elem.{Elem}
use Rattle.cc_capture.specs.declared.var.Elem.TheVariants.{Var as Variable, Cap, Hole}
use Rattle.cc_core.specs.Shapes.{Shape, TypeVariable}
use Rattle.cc_core.specs.Traversal.{act, composed}
use Rattle.cc_core.specs.Substitution.{single, moved_element, put_variable, put_shape, opening, putting_shape, renamed_variable, free_shape, freely, overridden}
use Rattle.cc_core.specs.Occurrences.{agreement, Meets, IsAskedOf, bound_within, IsPositionBelow, positions_below, under_type_binder}
use Rattle.cc_core.proofs.Conditions.{GivesHere}
use Rattle.cc_core.proofs.Moving.{flat_image-of_single}
use Rattle.cc_core.proofs.Opening.{put_variable-same, put_variable-other}
use Rattle.cc_core.proofs.FreeActions.{Sends, no_open_index-deeper, put_shape-same, put_shape-other, putting_shape_set, putting_shape-still, free-putting}
use Rattle.cc_core.proofs.Renaming.{IsFree-freely, overridden-same, overridden-below, freely-agree}
use Rattle.cc_core.proofs.Sorts.{MeetsIn, MeetsIn-here, Sort, Syntax, acted, acted-acted, acted-congruent}

module _ (n q : ℕ) (to : ℕ → ℕ) (shapes : ℕ → Shape) (closed : (p : ℕ) → Meets (bound_within 0) 0 (shapes p)) where
  closed_still : (p : ℕ) → Meets (bound_within 0) 0 (overridden shapes n (TypeVariable (Free q)) p)
  closed_still p =
      cond_both (nat_eq p n) (TypeVariable (Free q)) (shapes p) (Meets (bound_within 0) 0) (λ _. tt) (λ _. closed p)

  sends_fresh : Sends (freely (overridden to n q) (overridden shapes n (TypeVariable (Free q)))) (Free n) (Free q)
  sends_fresh = record {
    element = λ d. ap (λ k. single (Variable (Free k))) (overridden-same to n q);
    shape = λ d. overridden-same shapes n (TypeVariable (Free q));
    variable = λ d. ap Free (overridden-same to n q);
  }

  pub fresh_opening : (sort : Sort) (d : ℕ) (x : Syntax sort) → MeetsIn sort (positions_below n) d x
      → acted sort (freely (overridden to n q) (overridden shapes n (TypeVariable (Free q)))) d (acted sort (opening n) d x)
      ≡ acted sort (opening q) d (acted sort (freely to shapes) d x)
  fresh_opening sort d x m =
      free-putting (freely (overridden to n q) (overridden shapes n (TypeVariable (Free q)))) (IsFree-freely (overridden to n q) (overridden shapes n (TypeVariable (Free q))) closed_still) (Free n) (Free q) sends_fresh sort d x
      ∙ ap (acted sort (opening q) d) (freely-agree n to (overridden to n q) shapes (overridden shapes n (TypeVariable (Free q))) (overridden-below to n q) (overridden-below shapes n (TypeVariable (Free q))) sort d x m)

-- the same of a shape, at a body under the binder of a type variable, whatever the position is as a variable of terms
module _ (n : ℕ) (by : Shape) (to other : ℕ → ℕ) (shapes : ℕ → Shape) (same : (p : ℕ) → p < n → other p ≡ to p) (closed : (p : ℕ) → Meets (bound_within 0) 0 (shapes p)) where
  variable_put : (d : ℕ) (v : Var) → IsPositionBelow n v × (v ≢ Bound d)
      → renamed_variable other (put_variable (Free n) d v) ≡ renamed_variable to v
  variable_put d (Free p) h = ap Free (same p h.0)
  variable_put d (Bound i) h = ap (renamed_variable other) (put_variable-other (Free n) d i (λ e. h.1 (ap Bound e)))

  element_put : (d : ℕ) (x : Elem) → IsAskedOf (λ v. IsPositionBelow n v × (v ≢ Bound d)) x
      → moved_element (renamed_variable other) (moved_element (put_variable (Free n) d) x)
      ≡ moved_element (renamed_variable to) x
  element_put d (Variable v) h = ap (λ w. Variable w) (variable_put d v h)
  element_put d Cap h = refl
  element_put d (Hole k) h = refl

  shape_put : (d : ℕ) (v : Var) → IsPositionBelow n v
      → free_shape (overridden shapes n by) (put_variable (Free n) d v)
      ≡ act (putting_shape by) d (free_shape shapes v)
  shape_put d (Free p) h =
      overridden-below shapes n by p h
      ∙ sym (putting_shape-still by d (shapes p) (no_open_index-deeper d (shapes p) (closed p)))
  shape_put d (Bound i) h =
      elim (cases_eq i d) as (λ _. free_shape (overridden shapes n by) (put_variable (Free n) d (Bound i)) ≡ put_shape by d (Bound i)) [
        | inl e ↦
            ap (λ k. free_shape (overridden shapes n by) (put_variable (Free n) d (Bound k))) e
            ∙ ap (free_shape (overridden shapes n by)) (put_variable-same (Free n) d) ∙ overridden-same shapes n by
            ∙ sym (ap (λ k. put_shape by d (Bound k)) e ∙ put_shape-same by d)
        | inr else_ ↦ ap (free_shape (overridden shapes n by)) (put_variable-other (Free n) d i else_) ∙ sym (put_shape-other by d i else_)
      ]

  puts_shape : GivesHere (under_type_binder n) (agreement (composed (freely other (overridden shapes n by)) (opening n)) (composed (putting_shape by) (freely to shapes)))
  puts_shape = record {
    element = λ d x m.
        flat_image-of_single ((freely other (overridden shapes n by)).element d) (moved_element (put_variable (Free n) d) x)
        ∙ ap single (element_put d x m) ∙ sym (putting_shape_set by d (single (moved_element (renamed_variable to) x)));
    shape = λ d v m. shape_put d v m;
    variable = λ d v m. variable_put d v m;
  }

  pub fresh_shape : (sort : Sort) (d : ℕ) (x : Syntax sort) → MeetsIn sort (under_type_binder n) d x
      → acted sort (freely other (overridden shapes n by)) d (acted sort (opening n) d x)
      ≡ acted sort (putting_shape by) d (acted sort (freely to shapes) d x)
  fresh_shape sort d x m =
      acted-acted sort (freely other (overridden shapes n by)) (opening n) d x
      ∙ acted-congruent sort (composed (freely other (overridden shapes n by)) (opening n)) (composed (putting_shape by) (freely to shapes)) d x (MeetsIn-here sort _ _ puts_shape d x m)
      ∙ sym (acted-acted sort (putting_shape by) (freely to shapes) d x)
