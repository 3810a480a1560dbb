-- Renaming, filling, and actions on free positions that send the newest one to something else.
use Rattle.std.proofs.Common.{◌≡◌, ℕ, ◌<◌, refl, sym, ap, ◌∙◌, subst, arith}
use Rattle.std.proofs.lemmas.Bool.{cond-true, cond-false, eq-eqb, ne_eqb}
use Rattle.std.specs.Prelude.{nat_eq}
use Rattle.cc_capture.specs.declared.var.Var.{Var}
use Rattle.cc_capture.specs.declared.var.Var.TheVariants.{Bound, Free}
use Rattle.cc_capture.specs.declared.var.Elem.{Elem}
use Rattle.cc_capture.specs.declared.var.Elem.TheVariants.{Var as Variable, Cap, Hole}
use Rattle.cc_capture.specs.Sets.{Set}
use Rattle.cc_core.specs.Shapes.{Shape, TypeVariable}
use Rattle.cc_core.specs.Substitution.{single, moved_element, moving, renamed_variable, renaming, free_shape, freely, overridden, filled_element, filling_in}
use Rattle.cc_core.specs.Occurrences.{agreement, Meets, MeetsInSet, IsAskedOf, HasBinder, bound_within, IsPositionBelow, positions_below}
use Rattle.cc_core.proofs.Actions.{same_actions}
use Rattle.cc_core.proofs.Conditions.{GivesHere}
use Rattle.cc_core.proofs.Moving.{Member-single, same_moves, moving-moving}
use Rattle.cc_core.proofs.FreeActions.{IsFree, Sends}
use Rattle.cc_core.proofs.Sorts.{MeetsIn, MeetsIn-here, Sort, Syntax, acted, acted-congruent}

-- an action on free positions is free where the shapes that it puts in have no open index
moved_closed : (to : ℕ → ℕ) (x : Elem) → IsAskedOf (HasBinder 0) x
    → IsAskedOf (HasBinder 0) (moved_element (renamed_variable to) x)
moved_closed to (Variable (Bound i)) h = h
moved_closed to (Variable (Free p)) h = tt
moved_closed to Cap h = tt
moved_closed to (Hole n) h = tt

single_closed : (x : Elem) → IsAskedOf (HasBinder 0) x → MeetsInSet (bound_within 0) 0 (single x)
single_closed x h y m = subst (IsAskedOf (HasBinder 0)) (sym (Member-single y x m)) h

pub IsFree-freely : (to : ℕ → ℕ) (shapes : ℕ → Shape) → ((p : ℕ) → Meets (bound_within 0) 0 (shapes p))
    → IsFree (freely to shapes)
IsFree-freely to shapes closed = record {
  element_index = λ d i. refl;
  shape_index = λ d i. refl;
  variable_index = λ d i. refl;
  element_level = λ d e x. refl;
  shape_level = λ d e v. refl;
  variable_level = λ d e v. refl;
  element_closed = λ x h. single_closed (moved_element (renamed_variable to) x) (moved_closed to x h);
  shape_closed = closed;
  variable_closed = λ p. tt;
}

pub Sends-freely : (to : ℕ → ℕ) (shapes : ℕ → Shape) (q : ℕ) → shapes q ≡ TypeVariable (Free (to q))
    → Sends (freely to shapes) (Free q) (Free (to q))
Sends-freely to shapes q e = record { element = λ d. refl; shape = λ d. e; variable = λ d. refl }

-- renaming is such an action
pub renaming_as_free : (to : ℕ → ℕ) → renaming to ≡ freely to (λ p. TypeVariable (Free (to p)))
renaming_as_free to =
    same_actions (renaming to) (freely to (λ p. TypeVariable (Free (to p)))) (λ d x. refl) (λ d v. at v) (λ d v. refl)
  where
    at : (v : Var) → TypeVariable (renamed_variable to v) ≡ free_shape (λ p. TypeVariable (Free (to p))) v
    at (Bound i) = refl
    at (Free p) = refl

pub IsFree-renaming : (to : ℕ → ℕ) → IsFree (renaming to)
IsFree-renaming to =
    subst IsFree (sym (renaming_as_free to)) (IsFree-freely to (λ p. TypeVariable (Free (to p))) (λ p. tt))

pub Sends-renaming : (to : ℕ → ℕ) (q : ℕ) → Sends (renaming to) (Free q) (Free (to q))
Sends-renaming to q = record { element = λ d. refl; shape = λ d. refl; variable = λ d. refl }

-- renamings compose
renamed_twice : (f g : ℕ → ℕ) (v : Var)
    → renamed_variable f (renamed_variable g v) ≡ renamed_variable (λ p. f (g p)) v
renamed_twice f g (Bound i) = refl
renamed_twice f g (Free p) = refl

renamed_same : (f g : ℕ → ℕ) → moving (λ d v. renamed_variable f (renamed_variable g v)) ≡ renaming (λ p. f (g p))
renamed_same f g =
    same_moves (λ d v. renamed_variable f (renamed_variable g v)) (λ d v. renamed_variable (λ p. f (g p)) v)
    (λ d v. renamed_twice f g v)

pub renaming-renaming : (sort : Sort) (f g : ℕ → ℕ) (d : ℕ) (x : Syntax sort)
    → acted sort (renaming f) d (acted sort (renaming g) d x) ≡ acted sort (renaming (λ p. f (g p))) d x
renaming-renaming sort f g d x =
    moving-moving (λ k v. renamed_variable f v) (λ k v. renamed_variable g v) sort d x
    ∙ ap (λ r. acted sort r d x) (renamed_same f g)

-- filling is a free action where no filling has an index
filled_closed : (filling : ℕ → Set) → ((h : ℕ) → MeetsInSet (bound_within 0) 0 (filling h)) → (x : Elem)
    → IsAskedOf (HasBinder 0) x → MeetsInSet (bound_within 0) 0 (filled_element filling x)
filled_closed filling closed (Variable v) h = single_closed (Variable v) h
filled_closed filling closed Cap h = single_closed Cap h
filled_closed filling closed (Hole n) h = closed n

pub IsFree-filling_in : (filling : ℕ → Set) → ((h : ℕ) → MeetsInSet (bound_within 0) 0 (filling h))
    → IsFree (filling_in filling)
IsFree-filling_in filling closed = record {
  element_index = λ d i. refl;
  shape_index = λ d i. refl;
  variable_index = λ d i. refl;
  element_level = λ d e x. refl;
  shape_level = λ d e v. refl;
  variable_level = λ d e v. refl;
  element_closed = filled_closed filling closed;
  shape_closed = λ p. tt;
  variable_closed = λ p. tt;
}

pub Sends-filling_in : (filling : ℕ → Set) (v : Var) → Sends (filling_in filling) v v
Sends-filling_in filling v = record { element = λ d. refl; shape = λ d. refl; variable = λ d. refl }

-- an override
pub overridden-same : {A : Type 0} (f : ℕ → A) (n : ℕ) (a : A) → overridden f n a n ≡ a
overridden-same f n a = cond-true (nat_eq n n) a (f n) (eq-eqb n n refl)

pub overridden-below : {A : Type 0} (f : ℕ → A) (n : ℕ) (a : A) (p : ℕ) → p < n → overridden f n a p ≡ f p
overridden-below f n a p h = cond-false (nat_eq p n) a (f p) (ne_eqb p n (λ e. omega arith))

-- actions on free positions agree on what has positions below n where they agree below n
module _ (n : ℕ) (to other : ℕ → ℕ) (shapes others : ℕ → Shape) (same : (p : ℕ) → p < n → other p ≡ to p) (same_shapes : (p : ℕ) → p < n → others p ≡ shapes p) where
  renamed_agree : (v : Var) → IsPositionBelow n v → renamed_variable other v ≡ renamed_variable to v
  renamed_agree (Bound i) h = refl
  renamed_agree (Free p) h = ap Free (same p h)

  element_agree : (x : Elem) → IsAskedOf (IsPositionBelow n) x
      → moved_element (renamed_variable other) x ≡ moved_element (renamed_variable to) x
  element_agree (Variable v) h = ap (λ w. Variable w) (renamed_agree v h)
  element_agree Cap h = refl
  element_agree (Hole k) h = refl

  shape_agree : (v : Var) → IsPositionBelow n v → free_shape others v ≡ free_shape shapes v
  shape_agree (Bound i) h = refl
  shape_agree (Free p) h = same_shapes p h

  pub freely_agreement : GivesHere (positions_below n) (agreement (freely other others) (freely to shapes))
  freely_agreement = record {
    element = λ d x m. ap single (element_agree x m);
    shape = λ d v m. shape_agree v m;
    variable = λ d v m. renamed_agree v m;
  }

  pub freely-agree : (sort : Sort) (d : ℕ) (x : Syntax sort) → MeetsIn sort (positions_below n) d x
      → acted sort (freely other others) d x ≡ acted sort (freely to shapes) d x
  freely-agree sort d x m =
      acted-congruent sort (freely other others) (freely to shapes) d x (MeetsIn-here sort _ _ freely_agreement d x m)
