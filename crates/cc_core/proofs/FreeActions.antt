-- Actions on free positions commute with opening and with putting a shape.
use Rattle.std.proofs.Common.{◌≡◌, ℕ, suc, ◌+◌, ◌<◌, ◌≤◌, inl, inr, refl, sym, ap, ◌∙◌, subst, arith}
use Rattle.std.proofs.lemmas.Bool.{cases_eq, cond-true, cond-false, eq-eqb, ne_eqb}
use Rattle.std.specs.Prelude.{nat_eq}
use Rattle.cc_capture.specs.declared.var.Var.{Var}
use Rattle.cc_capture.specs.declared.var.Var.TheVariants.{Bound, Free}
use Rattle.cc_capture.specs.declared.var.Elem.{Elem}
use Rattle.cc_capture.specs.declared.var.Elem.TheVariants.{Var as Variable, Cap, Hole}
use Rattle.cc_capture.specs.Sets.{Set, flat_image}
use Rattle.cc_core.specs.Shapes.{Shape, BaseShape, AnyShape, TypeVariable, FunctionShape, TypeFunctionShape, BoxShape, ExitShape}
use Rattle.cc_core.specs.Traversal.{Action, act, act_set, keeping, composed}
use Rattle.cc_core.specs.Substitution.{single, moved_element, put_variable, put_shape, putting, putting_shape}
use Rattle.cc_core.specs.Occurrences.{agreement, Meets, MeetsInSet, IsAskedOf, HasBinder, bound_within}
use Rattle.cc_core.proofs.Actions.{same_actions, act-congruent, act_set-keeping, act-keeping}
use Rattle.cc_core.proofs.Conditions.{Gives, gives_on_variables, MeetsInSet-along, Meets-along, GivesHere, Meets-here}
use Rattle.cc_core.proofs.Moving.{flat_image-of_single}
use Rattle.cc_core.proofs.Opening.{put_variable-same, put_variable-other, put_still, putting-still}
use Rattle.cc_core.proofs.Sorts.{SetSort, ShapeSort, Sort, Syntax, acted, acted-acted}

-- what has no open index has none at any depth
closed_deeper : Gives (λ d e. d ≤ e) (bound_within 0) (bound_within 0)
closed_deeper =
    gives_on_variables (λ d e. d ≤ e) (λ d v. HasBinder (d + 0) v) (λ d v. HasBinder (d + 0) v)
    (λ d e r. let l : suc d ≤ suc e = omega arith in l) each
  where
    each : (d e : ℕ) → d ≤ e → (v : Var) → HasBinder (d + 0) v → HasBinder (e + 0) v
    each d e r (Bound i) h = let l : i < e + 0 = omega arith in l
    each d e r (Free p) h = tt

pub no_open_index-deeper : (d : ℕ) (s : Shape) → Meets (bound_within 0) 0 s → Meets (bound_within 0) d s
no_open_index-deeper d s m =
    Meets-along (λ k e. k ≤ e) (bound_within 0) (bound_within 0) closed_deeper 0 d s
    (let l : 0 ≤ d = omega arith in l) m

pub no_open_index-deeper_set : (d : ℕ) (c : Set) → MeetsInSet (bound_within 0) 0 c → MeetsInSet (bound_within 0) d c
no_open_index-deeper_set d c m =
    MeetsInSet-along (λ k e. k ≤ e) (bound_within 0) (bound_within 0) closed_deeper 0 d c
    (let l : 0 ≤ d = omega arith in l) m

-- a shape put for an index
pub put_shape-same : (by : Shape) (d : ℕ) → put_shape by d (Bound d) ≡ by
put_shape-same by d = cond-true (nat_eq d d) by (TypeVariable (Bound d)) (eq-eqb d d refl)

pub put_shape-other : (by : Shape) (d i : ℕ) → (i ≡ d → ⊥) → put_shape by d (Bound i) ≡ TypeVariable (Bound i)
put_shape-other by d i ne = cond-false (nat_eq i d) by (TypeVariable (Bound i)) (ne_eqb i d ne)

pub put_shape_still : (by : Shape) (d : ℕ) (v : Var) → HasBinder (d + 0) v → put_shape by d v ≡ TypeVariable v
put_shape_still by d (Free p) h = refl
put_shape_still by d (Bound i) h = put_shape-other by d i (λ e. omega arith)

pub putting_shape_set : (by : Shape) (d : ℕ) (c : Set) → act_set (putting_shape by) d c ≡ c
putting_shape_set by d c = act_set-keeping d c

putting_shape_agrees : (by : Shape) → GivesHere (bound_within 0) (agreement (putting_shape by) keeping)
putting_shape_agrees by =
    record { element = λ d x m. refl; shape = λ d v m. put_shape_still by d v m; variable = λ d v m. refl }

pub putting_shape-still : (by : Shape) (d : ℕ) (s : Shape) → Meets (bound_within 0) d s
    → act (putting_shape by) d s ≡ s
putting_shape-still by d s m =
    act-congruent (putting_shape by) keeping d s (Meets-here (bound_within 0) (agreement (putting_shape by) keeping) (putting_shape_agrees by) d s m)
    ∙ act-keeping d s

-- An action on free positions: it leaves each index, does the same at each depth, and puts in nothing with an open index.
pub record IsFree (f : Action) : Type 0 where
  pub element_index : (d i : ℕ) → f.element d (Variable (Bound i)) ≡ single (Variable (Bound i))
  pub shape_index : (d i : ℕ) → f.shape d (Bound i) ≡ TypeVariable (Bound i)
  pub variable_index : (d i : ℕ) → f.variable d (Bound i) ≡ Bound i
  pub element_level : (d e : ℕ) (x : Elem) → f.element d x ≡ f.element e x
  pub shape_level : (d e : ℕ) (v : Var) → f.shape d v ≡ f.shape e v
  pub variable_level : (d e : ℕ) (v : Var) → f.variable d v ≡ f.variable e v
  pub element_closed : (x : Elem) → IsAskedOf (HasBinder 0) x → MeetsInSet (bound_within 0) 0 (f.element 0 x)
  pub shape_closed : (p : ℕ) → Meets (bound_within 0) 0 (f.shape 0 (Free p))
  pub variable_closed : (p : ℕ) → HasBinder 0 (f.variable 0 (Free p))

-- where an action sends a variable that is put in
pub record Sends (f : Action) (by : Var) (to : Var) : Type 0 where
  pub element : (d : ℕ) → f.element d (Variable by) ≡ single (Variable to)
  pub shape : (d : ℕ) → f.shape d by ≡ TypeVariable to
  pub variable : (d : ℕ) → f.variable d by ≡ to

module _ (f : Action) (free : IsFree f) where
  -- the action at one depth is that at another
  pub free_set-level : (d e : ℕ) (c : Set) → act_set f d c ≡ act_set f e c
  free_set-level d e c i = flat_image (λ x. free.element_level d e x i) c

  pub free-level : (d e : ℕ) (s : Shape) → act f d s ≡ act f e s
  free-level d e (BaseShape b) = refl
  free-level d e AnyShape = refl
  free-level d e (TypeVariable v) = free.shape_level d e v
  free-level d e (FunctionShape t c u c') =
      λ i. FunctionShape (free-level d e t i) (free_set-level d e c i) (free-level (suc d) (suc e) u i)
      (free_set-level (suc d) (suc e) c' i)
  free-level d e (TypeFunctionShape b u c') =
      λ i. TypeFunctionShape (free-level d e b i) (free-level (suc d) (suc e) u i)
      (free_set-level (suc d) (suc e) c' i)
  free-level d e (BoxShape t c) = λ i. BoxShape (free-level d e t i) (free_set-level d e c i)
  free-level d e (ExitShape t) = λ i. ExitShape (free-level d e t i)

  -- what it puts in has no open index at any depth
  element_closed_at : (d : ℕ) (x : Elem) → IsAskedOf (HasBinder 0) x → MeetsInSet (bound_within 0) d (f.element d x)
  element_closed_at d x h =
      no_open_index-deeper_set d (f.element d x)
      (subst (MeetsInSet (bound_within 0) 0) (free.element_level 0 d x) (free.element_closed x h))

  shape_closed_at : (d p : ℕ) → Meets (bound_within 0) d (f.shape d (Free p))
  shape_closed_at d p =
      no_open_index-deeper d (f.shape d (Free p))
      (subst (Meets (bound_within 0) 0) (free.shape_level 0 d (Free p)) (free.shape_closed p))

  variable_closed_at : (d p : ℕ) → HasBinder (d + 0) (f.variable d (Free p))
  variable_closed_at d p =
      deeper (f.variable d (Free p)) (subst (HasBinder 0) (free.variable_level 0 d (Free p)) (free.variable_closed p))
    where
      deeper : (v : Var) → HasBinder 0 v → HasBinder (d + 0) v
      deeper (Bound i) h = absurd (omega arith)
      deeper (Free q) h = tt

-- An action on free positions commutes with putting a variable.
module _ (f : Action) (free : IsFree f) (by : Var) (to : Var) (sends : Sends f by to) where
  element_commutes : (d : ℕ) (x : Elem)
      → f.element d (moved_element (put_variable by d) x) ≡ act_set (putting to) d (f.element d x)
  element_commutes d (Variable (Bound i)) =
      elim (cases_eq i d) as (λ _. f.element d (Variable (put_variable by d (Bound i))) ≡ act_set (putting to) d (f.element d (Variable (Bound i)))) [
        | inl e ↦
            ap (λ k. f.element d (Variable (put_variable by d (Bound k)))) e ∙ ap (λ v. f.element d (Variable v)) (put_variable-same by d) ∙ sends.element d
            ∙ sym (after i ∙ ap (λ k. single (Variable (put_variable to d (Bound k)))) e ∙ ap (λ v. single (Variable v)) (put_variable-same to d))
        | inr other ↦
            ap (λ v. f.element d (Variable v)) (put_variable-other by d i other) ∙ free.element_index d i
            ∙ sym (after i ∙ ap (λ v. single (Variable v)) (put_variable-other to d i other))
      ]
    where
      after : (j : ℕ)
          → act_set (putting to) d (f.element d (Variable (Bound j)))
          ≡ single (Variable (put_variable to d (Bound j)))
      after j =
          ap (act_set (putting to) d) (free.element_index d j)
          ∙ flat_image-of_single (λ y. single (moved_element (put_variable to d) y)) (Variable (Bound j))
  element_commutes d (Variable (Free p)) =
      sym
      (putting-still SetSort to d (f.element d (Variable (Free p))) (element_closed_at f free d (Variable (Free p)) tt))
  element_commutes d Cap = sym (putting-still SetSort to d (f.element d Cap) (element_closed_at f free d Cap tt))
  element_commutes d (Hole n) =
      sym (putting-still SetSort to d (f.element d (Hole n)) (element_closed_at f free d (Hole n) tt))

  shape_commutes : (d : ℕ) (v : Var) → f.shape d (put_variable by d v) ≡ act (putting to) d (f.shape d v)
  shape_commutes d (Free p) = sym (putting-still ShapeSort to d (f.shape d (Free p)) (shape_closed_at f free d p))
  shape_commutes d (Bound i) =
      elim (cases_eq i d) as (λ _. f.shape d (put_variable by d (Bound i)) ≡ act (putting to) d (f.shape d (Bound i))) [
        | inl e ↦
            ap (λ k. f.shape d (put_variable by d (Bound k))) e ∙ ap (f.shape d) (put_variable-same by d) ∙ sends.shape d
            ∙ sym (after ∙ ap (λ k. TypeVariable (put_variable to d (Bound k))) e ∙ ap (λ v. TypeVariable v) (put_variable-same to d))
        | inr other ↦
            ap (f.shape d) (put_variable-other by d i other) ∙ free.shape_index d i
            ∙ sym (after ∙ ap (λ v. TypeVariable v) (put_variable-other to d i other))
      ]
    where
      after : act (putting to) d (f.shape d (Bound i)) ≡ TypeVariable (put_variable to d (Bound i))
      after = ap (act (putting to) d) (free.shape_index d i)

  variable_commutes : (d : ℕ) (v : Var) → f.variable d (put_variable by d v) ≡ put_variable to d (f.variable d v)
  variable_commutes d (Free p) = sym (put_still to d (f.variable d (Free p)) (variable_closed_at f free d p))
  variable_commutes d (Bound i) =
      elim (cases_eq i d) as (λ _. f.variable d (put_variable by d (Bound i)) ≡ put_variable to d (f.variable d (Bound i))) [
        | inl e ↦
            ap (λ k. f.variable d (put_variable by d (Bound k))) e ∙ ap (f.variable d) (put_variable-same by d) ∙ sends.variable d
            ∙ sym (after ∙ ap (λ k. put_variable to d (Bound k)) e ∙ put_variable-same to d)
        | inr other ↦ ap (f.variable d) (put_variable-other by d i other) ∙ free.variable_index d i ∙ sym (after ∙ put_variable-other to d i other)
      ]
    where
      after : put_variable to d (f.variable d (Bound i)) ≡ put_variable to d (Bound i)
      after = ap (put_variable to d) (free.variable_index d i)

  free-after_putting : composed f (putting by) ≡ composed (putting to) f
  free-after_putting =
      same_actions (composed f (putting by)) (composed (putting to) f)
      (λ d x. flat_image-of_single (f.element d) (moved_element (put_variable by d) x) ∙ element_commutes d x)
      shape_commutes
      variable_commutes

  pub free-putting : (sort : Sort) (d : ℕ) (x : Syntax sort)
      → acted sort f d (acted sort (putting by) d x) ≡ acted sort (putting to) d (acted sort f d x)
  free-putting sort d x =
      acted-acted sort f (putting by) d x ∙ ap (λ a. acted sort a d x) free-after_putting
      ∙ sym (acted-acted sort (putting to) f d x)

-- An action on free positions commutes with putting a shape.
module _ (f : Action) (free : IsFree f) (by : Shape) where
  put_shape_commutes : (d : ℕ) (v : Var)
      → act f d (put_shape by d v) ≡ act (putting_shape (act f 0 by)) d (f.shape d v)
  put_shape_commutes d (Free p) =
      sym (putting_shape-still (act f 0 by) d (f.shape d (Free p)) (shape_closed_at f free d p))
  put_shape_commutes d (Bound i) =
      elim (cases_eq i d) as (λ _. act f d (put_shape by d (Bound i)) ≡ act (putting_shape (act f 0 by)) d (f.shape d (Bound i))) [
        | inl e ↦
            ap (λ k. act f d (put_shape by d (Bound k))) e ∙ ap (act f d) (put_shape-same by d) ∙ free-level f free d 0 by
            ∙ sym (after ∙ ap (λ k. put_shape (act f 0 by) d (Bound k)) e ∙ put_shape-same (act f 0 by) d)
        | inr other ↦ ap (act f d) (put_shape-other by d i other) ∙ free.shape_index d i ∙ sym (after ∙ put_shape-other (act f 0 by) d i other)
      ]
    where
      after : act (putting_shape (act f 0 by)) d (f.shape d (Bound i)) ≡ put_shape (act f 0 by) d (Bound i)
      after = ap (act (putting_shape (act f 0 by)) d) (free.shape_index d i)

  free-after_putting_shape : composed f (putting_shape by) ≡ composed (putting_shape (act f 0 by)) f
  free-after_putting_shape =
      same_actions (composed f (putting_shape by)) (composed (putting_shape (act f 0 by)) f)
      (λ d x. flat_image-of_single (f.element d) x ∙ sym (putting_shape_set (act f 0 by) d (f.element d x)))
      put_shape_commutes
      (λ d v. refl)

  pub free-putting_shape : (sort : Sort) (d : ℕ) (x : Syntax sort)
      → acted sort f d (acted sort (putting_shape by) d x)
      ≡ acted sort (putting_shape (act f 0 by)) d (acted sort f d x)
  free-putting_shape sort d x =
      acted-acted sort f (putting_shape by) d x ∙ ap (λ a. acted sort a d x) free-after_putting_shape
      ∙ sym (acted-acted sort (putting_shape (act f 0 by)) f d x)
