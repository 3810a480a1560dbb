-- Actions on free positions commute with opening the body of a binder of terms, whatever they do to the position as a type
-- variable, since no type variable stands there.
use Rattle.std.proofs.Common.{◌≡◌, ◌≢◌, ℕ, ◌<◌, inl, inr, refl, sym, ap, ◌∙◌}
use Rattle.std.proofs.lemmas.Bool.{cases_eq}
use Rattle.cc_capture.specs.declared.var.Var.{Var}
use Rattle.cc_capture.specs.declared.var.Var.TheVariants.{Bound, Free}
use Rattle.cc_capture.specs.declared.var.Elem.{Elem}
use Rattle.cc_capture.specs.declared.var.Elem.TheVariants.{Var as Variable, Cap, Hole}
use Rattle.cc_core.specs.Shapes.{Shape, TypeVariable}
use Rattle.cc_core.specs.Traversal.{act, composed}
use Rattle.cc_core.specs.Substitution.{single, moved_element, put_variable, opening, renamed_variable, free_shape, freely}
use Rattle.cc_core.specs.Occurrences.{Condition, Meets, IsAskedOf, agreement, bound_within, IsPositionBelow, no_outermost_type, under_term_binder}
use Rattle.cc_core.proofs.Conditions.{GivesHere}
use Rattle.cc_core.proofs.Moving.{flat_image-of_single}
use Rattle.cc_core.proofs.Opening.{put_variable-same, put_variable-other, putting-still}
use Rattle.cc_core.proofs.FreeActions.{no_open_index-deeper}
use Rattle.cc_core.proofs.Sorts.{MeetsIn, MeetsIn-here, ShapeSort, Sort, Syntax, acted, acted-acted, acted-congruent}

module _ (n q : ℕ) (to other : ℕ → ℕ) (shapes others : ℕ → Shape) (sent : other n ≡ q) (closed : (p : ℕ) → Meets (bound_within 0) 0 (shapes p)) where
  -- the two actions do the same to the variable, as one of terms and as one of types
  abbrev pub IsSentAlike : Var → Type 0
  IsSentAlike (Free p) = other p ≡ to p
  IsSentAlike (Bound i) = Unit {0}

  abbrev pub IsReplacedAlike : Var → Type 0
  IsReplacedAlike (Free p) = others p ≡ shapes p
  IsReplacedAlike (Bound i) = Unit {0}

  abbrev pub sent_alike : Condition
  sent_alike = record {
    element = λ d x. IsAskedOf IsSentAlike x;
    shape = λ d v. IsReplacedAlike v × (v ≢ Bound d);
    variable = λ d v. IsSentAlike v;
  }

  variable_after : (d : ℕ) (v : Var) → IsSentAlike v
      → renamed_variable other (put_variable (Free n) d v) ≡ put_variable (Free q) d (renamed_variable to v)
  variable_after d (Free p) h = ap Free h
  variable_after d (Bound i) h =
      elim (cases_eq i d) as (λ _. renamed_variable other (put_variable (Free n) d (Bound i)) ≡ put_variable (Free q) d (Bound i)) [
        | inl same ↦
            ap (λ k. renamed_variable other (put_variable (Free n) d (Bound k))) same
            ∙ ap (renamed_variable other) (put_variable-same (Free n) d) ∙ ap Free sent
            ∙ sym (ap (λ k. put_variable (Free q) d (Bound k)) same ∙ put_variable-same (Free q) d)
        | inr apart ↦ ap (renamed_variable other) (put_variable-other (Free n) d i apart) ∙ sym (put_variable-other (Free q) d i apart)
      ]

  element_after : (d : ℕ) (x : Elem) → IsAskedOf IsSentAlike x
      → moved_element (renamed_variable other) (moved_element (put_variable (Free n) d) x)
      ≡ moved_element (put_variable (Free q) d) (moved_element (renamed_variable to) x)
  element_after d (Variable v) h = ap (λ w. Variable w) (variable_after d v h)
  element_after d Cap h = refl
  element_after d (Hole k) h = refl

  shape_after : (d : ℕ) (v : Var) → IsReplacedAlike v × (v ≢ Bound d)
      → free_shape others (put_variable (Free n) d v) ≡ act (opening q) d (free_shape shapes v)
  shape_after d (Free p) h =
      h.0 ∙ sym (putting-still ShapeSort (Free q) d (shapes p) (no_open_index-deeper d (shapes p) (closed p)))
  shape_after d (Bound i) h =
      ap (free_shape others) (put_variable-other (Free n) d i (λ e. h.1 (ap Bound e)))
      ∙ ap (λ v. TypeVariable v) (sym (put_variable-other (Free q) d i (λ e. h.1 (ap Bound e))))

  opens_alike : GivesHere sent_alike (agreement (composed (freely other others) (opening n)) (composed (opening q) (freely to shapes)))
  opens_alike = record {
    element = λ d x m.
        flat_image-of_single ((freely other others).element d) (moved_element (put_variable (Free n) d) x)
        ∙ ap single (element_after d x m)
        ∙ sym (flat_image-of_single ((opening q).element d) (moved_element (renamed_variable to) x));
    shape = shape_after;
    variable = variable_after;
  }

  pub opened_alike : (sort : Sort) (d : ℕ) (x : Syntax sort) → MeetsIn sort sent_alike d x
      → acted sort (freely other others) d (acted sort (opening n) d x)
      ≡ acted sort (opening q) d (acted sort (freely to shapes) d x)
  opened_alike sort d x m =
      acted-acted sort (freely other others) (opening n) d x
      ∙ acted-congruent sort (composed (freely other others) (opening n)) (composed (opening q) (freely to shapes)) d x (MeetsIn-here sort sent_alike _ opens_alike d x m)
      ∙ sym (acted-acted sort (opening q) (freely to shapes) d x)

-- one action, at any position
module _ (q : ℕ) (to : ℕ → ℕ) (shapes : ℕ → Shape) (closed : (p : ℕ) → Meets (bound_within 0) 0 (shapes p)) where
  always_sent : (v : Var) → IsSentAlike q (to q) to to shapes shapes refl closed v
  always_sent (Free p) = refl
  always_sent (Bound i) = tt

  always_sent_element : (x : Elem) → IsAskedOf (IsSentAlike q (to q) to to shapes shapes refl closed) x
  always_sent_element (Variable v) = always_sent v
  always_sent_element Cap = tt
  always_sent_element (Hole k) = tt

  always_replaced : (v : Var) → IsReplacedAlike q (to q) to to shapes shapes refl closed v
  always_replaced (Free p) = refl
  always_replaced (Bound i) = tt

  opens_body : GivesHere no_outermost_type (sent_alike q (to q) to to shapes shapes refl closed)
  opens_body = record {
    element = λ d x m. always_sent_element x;
    shape = λ d v m. (always_replaced v, m);
    variable = λ d v m. always_sent v;
  }

  pub opened_body : (sort : Sort) (d : ℕ) (x : Syntax sort) → MeetsIn sort no_outermost_type d x
      → acted sort (freely to shapes) d (acted sort (opening q) d x)
      ≡ acted sort (opening (to q)) d (acted sort (freely to shapes) d x)
  opened_body sort d x m =
      opened_alike q (to q) to to shapes shapes refl closed sort d x
      (MeetsIn-here sort no_outermost_type _ opens_body d x m)

-- two actions that agree below a fresh position, which one of them sends to another position
module _ (n q : ℕ) (to other : ℕ → ℕ) (shapes others : ℕ → Shape) (sent : other n ≡ q) (closed : (p : ℕ) → Meets (bound_within 0) 0 (shapes p)) (same : (p : ℕ) → p < n → other p ≡ to p) (same_shapes : (p : ℕ) → p < n → others p ≡ shapes p) where
  sent_below : (v : Var) → IsPositionBelow n v → IsSentAlike n q to other shapes others sent closed v
  sent_below (Free p) h = same p h
  sent_below (Bound i) h = tt

  sent_below_element : (x : Elem) → IsAskedOf (IsPositionBelow n) x
      → IsAskedOf (IsSentAlike n q to other shapes others sent closed) x
  sent_below_element (Variable v) h = sent_below v h
  sent_below_element Cap h = tt
  sent_below_element (Hole k) h = tt

  replaced_below : (v : Var) → IsPositionBelow n v → IsReplacedAlike n q to other shapes others sent closed v
  replaced_below (Free p) h = same_shapes p h
  replaced_below (Bound i) h = tt

  opens_fresh : GivesHere (under_term_binder n) (sent_alike n q to other shapes others sent closed)
  opens_fresh = record {
    element = λ d x m. sent_below_element x m;
    shape = λ d v m. (replaced_below v m.0, m.1);
    variable = λ d v m. sent_below v m;
  }

  pub fresh_body : (sort : Sort) (d : ℕ) (x : Syntax sort) → MeetsIn sort (under_term_binder n) d x
      → acted sort (freely other others) d (acted sort (opening n) d x)
      ≡ acted sort (opening q) d (acted sort (freely to shapes) d x)
  fresh_body sort d x m =
      opened_alike n q to other shapes others sent closed sort d x
      (MeetsIn-here sort (under_term_binder n) _ opens_fresh d x m)
