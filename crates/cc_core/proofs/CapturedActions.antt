-- The captured variables of what an action was taken of are those before, with the action taken of them.
use Rattle.std.proofs.Common.{◌≡◌, ℕ, zero, suc, ◌<◌, Bool, true, false, not, ◌&&◌, Option, Some, None, inl, inr, refl, sym, ap, ◌∙◌, subst, arith}
use Rattle.std.specs.Prelude.{cond}
use Rattle.std.specs.Option.{option_map}
use Rattle.std.proofs.lemmas.Bool.{cases_eq}
use Rattle.cc_capture.specs.declared.var.Var.{Var}
use Rattle.cc_capture.specs.declared.var.Var.TheVariants.{Bound, Free}
use Rattle.cc_capture.specs.declared.var.Elem.{Elem}
use Rattle.cc_capture.specs.declared.var.Elem.TheVariants.{Var as Variable, Cap, Hole}
use Rattle.cc_capture.specs.Sets.{Set, Member, contains, union, flat_image}
use Rattle.cc_capture.proofs.Membership.{Member-flat_image}
use Rattle.cc_capture.proofs.Images.{flat_image-flat_image, flat_image-congruent, flat_image-union, flat_image-empty}
use Rattle.cc_capture.proofs.WordSets.{alike}
use Rattle.cc_core.specs.Shapes.{Shape}
use Rattle.cc_core.specs.Terms.{Term, VariableTerm, LiteralTerm, FunctionTerm, TypeFunctionTerm, BoxTerm, Application, TypeApplication, Unboxing, Let, Primitive, Conditional, Repetition, Operation, Boundary, Leave}
use Rattle.cc_core.specs.Traversal.{Action, act_set, act_term}
use Rattle.cc_core.specs.Substitution.{single, moved_element, put_variable, closed_variable, renamed_variable, putting, closing, renaming, freely, putting_shape, filled_element, filling_in}
use Rattle.cc_core.specs.Captured.{is_value, outside, without_binder, variable_set, optional_set, optional_variable_set, is_unused_value, captured_variables}
use Rattle.cc_core.specs.Occurrences.{MeetsInSet, IsAskedOf, HasBinder, bound_within}
use Rattle.cc_core.proofs.Actions.{act_set-keeping}
use Rattle.cc_core.proofs.Moving.{flat_image-of_single, Member-single, Member-single_itself}
use Rattle.cc_core.proofs.Opening.{put_variable-same, put_variable-other, closed_variable-same, closed_variable-other}

-- an action that does the same to elements and variables, does the same outside of a binder, and keeps the newest index apart
pub record PassesBinders (f : Action) : Type 0 where
  pub variables : (d : ℕ) (v : Var) → f.element d (Variable v) ≡ single (Variable (f.variable d v))
  pub outwards : (d : ℕ) (x : Elem) → flat_image outside (f.element (suc d) x) ≡ flat_image (f.element d) (outside x)
  pub newest : (d : ℕ) (x : Elem) → Member (Variable (Bound zero)) (f.element (suc d) x) → x ≡ Variable (Bound zero)
  pub newest_stays : (d : ℕ) → f.variable (suc d) (Bound zero) ≡ Bound zero

pub is_value-act : (f : Action) (d : ℕ) (t : Term) → is_value (act_term f d t) ≡ is_value t
is_value-act f d (VariableTerm v) = refl
is_value-act f d (LiteralTerm l) = refl
is_value-act f d (FunctionTerm s c t) = refl
is_value-act f d (TypeFunctionTerm s t) = refl
is_value-act f d (BoxTerm v) = refl
is_value-act f d (Application v w) = refl
is_value-act f d (TypeApplication v s) = refl
is_value-act f d (Unboxing o v) = refl
is_value-act f d (Let n s t) = refl
is_value-act f d (Primitive p v w) = refl
is_value-act f d (Conditional n v s t) = refl
is_value-act f d (Repetition v w) = refl
is_value-act f d (Operation p v o) = refl
is_value-act f d (Boundary s t) = refl
is_value-act f d (Leave s c v w) = refl

module _ (f : Action) (passes : PassesBinders f) where
  act_variable_set : (d : ℕ) (v : Var) → variable_set (f.variable d v) ≡ act_set f d (variable_set v)
  act_variable_set d v = sym (flat_image-of_single (f.element d) (Variable v) ∙ passes.variables d v)

  pub without_binder-act : (d : ℕ) (c : Set) → without_binder (act_set f (suc d) c) ≡ act_set f d (without_binder c)
  without_binder-act d c =
      flat_image-flat_image outside (f.element (suc d)) c
      ∙ flat_image-congruent (λ x. flat_image outside (f.element (suc d) x)) (λ x. flat_image (f.element d) (outside x)) c (λ x _. passes.outwards d x)
      ∙ sym (flat_image-flat_image (f.element d) outside c)

  captures_newest : (d : ℕ) (c : Set)
      → contains (Variable (Bound zero)) (act_set f (suc d) c) ≡ contains (Variable (Bound zero)) c
  captures_newest d c =
      alike (contains (Variable (Bound zero)) (act_set f (suc d) c)) (contains (Variable (Bound zero)) c)
      (λ h.
      let from = (Member-flat_image (f.element (suc d)) (Variable (Bound zero)) c).0 h in
      subst (λ x. Member x c) (passes.newest d from.0 from.2) from.1)
      (λ h.
      (Member-flat_image (f.element (suc d)) (Variable (Bound zero)) c).1
      (Variable (Bound zero), h, subst (Member (Variable (Bound zero))) (sym (passes.variables (suc d) (Bound zero) ∙ ap (λ v. single (Variable v)) (passes.newest_stays d))) (Member-single_itself (Variable (Bound zero)))))

  act_optional_set : (d : ℕ) (o : Option Set)
      → optional_set (option_map (act_set f d) o) ≡ act_set f d (optional_set o)
  act_optional_set d None = sym (flat_image-empty (f.element d))
  act_optional_set d (Some c) = refl

  act_optional_variable : (d : ℕ) (o : Option Var)
      → optional_variable_set (option_map (f.variable d) o) ≡ act_set f d (optional_variable_set o)
  act_optional_variable d None = sym (flat_image-empty (f.element d))
  act_optional_variable d (Some v) = act_variable_set d v

  act_union : (d : ℕ) (a b c e : Set) → a ≡ act_set f d c → b ≡ act_set f d e → union a b ≡ act_set f d (union c e)
  act_union d a b c e p q = (λ i. union (p i) (q i)) ∙ sym (flat_image-union (f.element d) c e)

  act_cond : (d : ℕ) (b : Bool) (x y : Set) → cond b (act_set f d x) (act_set f d y) ≡ act_set f d (cond b x y)
  act_cond d true x y = refl
  act_cond d false x y = refl

  pub captured_variables-act : (d : ℕ) (t : Term)
      → captured_variables (act_term f d t) ≡ act_set f d (captured_variables t)
  captured_variables-act d (VariableTerm v) = act_variable_set d v
  captured_variables-act d (LiteralTerm l) = sym (flat_image-empty (f.element d))
  captured_variables-act d (FunctionTerm s c t) =
      ap without_binder (captured_variables-act (suc d) t) ∙ without_binder-act d (captured_variables t)
  captured_variables-act d (TypeFunctionTerm s t) =
      ap without_binder (captured_variables-act (suc d) t) ∙ without_binder-act d (captured_variables t)
  captured_variables-act d (BoxTerm v) = sym (flat_image-empty (f.element d))
  captured_variables-act d (Application v w) =
      act_union d _ _ (variable_set v) (variable_set w) (act_variable_set d v) (act_variable_set d w)
  captured_variables-act d (TypeApplication v s) = act_variable_set d v
  captured_variables-act d (Unboxing o v) =
      act_union d _ _ (optional_set o) (variable_set v) (act_optional_set d o) (act_variable_set d v)
  captured_variables-act d (Let n s t) =
      let body : without_binder (captured_variables (act_term f (suc d) t)) ≡ act_set f d (without_binder (captured_variables t)) =
      ap without_binder (captured_variables-act (suc d) t) ∙ without_binder-act d (captured_variables t) in
      let unused : is_unused_value (act_term f d s) (captured_variables (act_term f (suc d) t)) ≡ is_unused_value s (captured_variables t) =
      (λ i. is_value-act f d s i && not (contains (Variable (Bound zero)) (captured_variables-act (suc d) t i)))
      ∙ (λ i. is_value s && not (captures_newest d (captured_variables t) i)) in
      (λ i. cond (unused i) (body i) (act_union d _ _ (captured_variables s) (without_binder (captured_variables t)) (captured_variables-act d s) body i))
      ∙ act_cond d (is_unused_value s (captured_variables t)) (without_binder (captured_variables t)) (union (captured_variables s) (without_binder (captured_variables t)))
  captured_variables-act d (Primitive p v w) =
      act_union d _ _ (variable_set v) (variable_set w) (act_variable_set d v) (act_variable_set d w)
  captured_variables-act d (Conditional n v s t) =
      act_union d _ _ (variable_set v) (union (captured_variables s) (captured_variables t)) (act_variable_set d v)
      (act_union d _ _ (captured_variables s) (captured_variables t) (captured_variables-act d s) (captured_variables-act d t))
  captured_variables-act d (Repetition v w) =
      act_union d _ _ (variable_set v) (variable_set w) (act_variable_set d v) (act_variable_set d w)
  captured_variables-act d (Operation p v o) =
      act_union d _ _ (variable_set v) (optional_variable_set o) (act_variable_set d v) (act_optional_variable d o)
  captured_variables-act d (Boundary s t) =
      ap without_binder (captured_variables-act (suc d) t) ∙ without_binder-act d (captured_variables t)
  captured_variables-act d (Leave s c v w) =
      act_union d _ _ (variable_set v) (variable_set w) (act_variable_set d v) (act_variable_set d w)

-- the actions that do so: moves
pub record MovesOutwards (move : ℕ → Var → Var) : Type 0 where
  pub newest : (d : ℕ) (v : Var) → move (suc d) v ≡ Bound zero → v ≡ Bound zero
  pub newest_stays : (d : ℕ) → move (suc d) (Bound zero) ≡ Bound zero
  pub index : (d i : ℕ) → outside (Variable (move (suc d) (Bound (suc i)))) ≡ single (Variable (move d (Bound i)))
  pub position : (d p : ℕ) → outside (Variable (move (suc d) (Free p))) ≡ single (Variable (move d (Free p)))

pub PassesBinders-moves : (f : Action) (move : ℕ → Var → Var)
    → ((d : ℕ) (x : Elem) → f.element d x ≡ single (moved_element (move d) x))
    → ((d : ℕ) (v : Var) → f.variable d v ≡ move d v) → MovesOutwards move → PassesBinders f
PassesBinders-moves f move elements variables moves = record {
  variables = λ d v. elements d (Variable v) ∙ ap (λ w. single (Variable w)) (sym (variables d v));
  outwards = outwards;
  newest =
      λ d x h. newest d x
      (Member-single (Variable (Bound zero)) (moved_element (move (suc d)) x) (subst (Member (Variable (Bound zero))) (elements (suc d) x) h));
  newest_stays = λ d. variables (suc d) (Bound zero) ∙ moves.newest_stays d;
}
  where
    once : (d : ℕ) (x : Elem) → flat_image outside (f.element (suc d) x) ≡ outside (moved_element (move (suc d)) x)
    once d x =
        ap (flat_image outside) (elements (suc d) x) ∙ flat_image-of_single outside (moved_element (move (suc d)) x)

    after : (d : ℕ) (x : Elem) → flat_image (f.element d) (single x) ≡ single (moved_element (move d) x)
    after d x = flat_image-of_single (f.element d) x ∙ elements d x

    outwards : (d : ℕ) (x : Elem) → flat_image outside (f.element (suc d) x) ≡ flat_image (f.element d) (outside x)
    outwards d (Variable (Bound zero)) =
        once d (Variable (Bound zero)) ∙ ap (λ v. outside (Variable v)) (moves.newest_stays d)
        ∙ sym (flat_image-empty (f.element d))
    outwards d (Variable (Bound (suc i))) =
        once d (Variable (Bound (suc i))) ∙ moves.index d i ∙ sym (after d (Variable (Bound i)))
    outwards d (Variable (Free p)) =
        once d (Variable (Free p)) ∙ moves.position d p ∙ sym (after d (Variable (Free p)))
    outwards d Cap = once d Cap ∙ sym (after d Cap)
    outwards d (Hole n) = once d (Hole n) ∙ sym (after d (Hole n))

    newest : (d : ℕ) (x : Elem) → Variable (Bound zero) ≡ moved_element (move (suc d)) x → x ≡ Variable (Bound zero)
    newest d (Variable v) e =
        ap (λ w. Variable w) (moves.newest d v (let same : move (suc d) v ≡ Bound zero = cc in same))
    newest d Cap e = cc
    newest d (Hole n) e = cc

outside_index : (d i p : ℕ)
    → outside (Variable (put_variable (Free p) (suc d) (Bound (suc i))))
    ≡ single (Variable (put_variable (Free p) d (Bound i)))
outside_index d i p =
    elim (cases_eq i d) as (λ _. outside (Variable (put_variable (Free p) (suc d) (Bound (suc i)))) ≡ single (Variable (put_variable (Free p) d (Bound i)))) [
      | inl same ↦
          ap (λ v. outside (Variable v)) (ap (λ k. put_variable (Free p) (suc d) (Bound (suc k))) same ∙ put_variable-same (Free p) (suc d))
          ∙ ap (λ v. single (Variable v)) (sym (ap (λ k. put_variable (Free p) d (Bound k)) same ∙ put_variable-same (Free p) d))
      | inr other ↦
          ap (λ v. outside (Variable v)) (put_variable-other (Free p) (suc d) (suc i) (λ e. omega arith))
          ∙ ap (λ v. single (Variable v)) (sym (put_variable-other (Free p) d i other))
    ]

putting_moves : (p : ℕ) → MovesOutwards (put_variable (Free p))
putting_moves p = record {
  newest = newest;
  newest_stays = λ d. put_variable-other (Free p) (suc d) zero (λ e. omega arith);
  index = λ d i. outside_index d i p;
  position = λ d q. refl;
}
  where
    newest : (d : ℕ) (v : Var) → put_variable (Free p) (suc d) v ≡ Bound zero → v ≡ Bound zero
    newest d (Free q) e = cc
    newest d (Bound i) e =
        elim (cases_eq i (suc d)) as (λ _. Bound i ≡ Bound zero) [
          | inl same ↦ let free : Bound zero ≡ Free p = sym e ∙ ap (λ k. put_variable (Free p) (suc d) (Bound k)) same ∙ put_variable-same (Free p) (suc d) in cc
          | inr other ↦ sym (put_variable-other (Free p) (suc d) i other) ∙ e
        ]

pub PassesBinders-putting : (p : ℕ) → PassesBinders (putting (Free p))
PassesBinders-putting p =
    PassesBinders-moves (putting (Free p)) (put_variable (Free p)) (λ d x. refl) (λ d v. refl) (putting_moves p)

closing_moves : (n : ℕ) → MovesOutwards (closed_variable n)
closing_moves n = record { newest = newest; newest_stays = λ d. refl; index = λ d i. refl; position = position }
  where
    newest : (d : ℕ) (v : Var) → closed_variable n (suc d) v ≡ Bound zero → v ≡ Bound zero
    newest d (Bound i) e = e
    newest d (Free q) e =
        elim (cases_eq q n) as (λ _. Free q ≡ Bound zero) [
          | inl same ↦ let index : Bound zero ≡ Bound (suc d) = sym e ∙ ap (λ k. closed_variable n (suc d) (Free k)) same ∙ closed_variable-same n (suc d) in cc
          | inr other ↦ sym (closed_variable-other n (suc d) q other) ∙ e
        ]

    position : (d p : ℕ)
        → outside (Variable (closed_variable n (suc d) (Free p))) ≡ single (Variable (closed_variable n d (Free p)))
    position d p =
        elim (cases_eq p n) as (λ _. outside (Variable (closed_variable n (suc d) (Free p))) ≡ single (Variable (closed_variable n d (Free p)))) [
          | inl same ↦
              ap (λ v. outside (Variable v)) (ap (λ k. closed_variable n (suc d) (Free k)) same ∙ closed_variable-same n (suc d))
              ∙ ap (λ v. single (Variable v)) (sym (ap (λ k. closed_variable n d (Free k)) same ∙ closed_variable-same n d))
          | inr other ↦
              ap (λ v. outside (Variable v)) (closed_variable-other n (suc d) p other) ∙ ap (λ v. single (Variable v)) (sym (closed_variable-other n d p other))
        ]

pub PassesBinders-closing : (n : ℕ) → PassesBinders (closing n)
PassesBinders-closing n =
    PassesBinders-moves (closing n) (closed_variable n) (λ d x. refl) (λ d v. refl) (closing_moves n)

renaming_moves : (to : ℕ → ℕ) → MovesOutwards (λ d v. renamed_variable to v)
renaming_moves to = record { newest = newest; newest_stays = λ d. refl; index = λ d i. refl; position = λ d p. refl }
  where
    newest : (d : ℕ) (v : Var) → renamed_variable to v ≡ Bound zero → v ≡ Bound zero
    newest d (Bound i) e = e
    newest d (Free q) e = cc

pub PassesBinders-renaming : (to : ℕ → ℕ) → PassesBinders (renaming to)
PassesBinders-renaming to =
    PassesBinders-moves (renaming to) (λ d v. renamed_variable to v) (λ d x. refl) (λ d v. refl) (renaming_moves to)

pub PassesBinders-freely : (to : ℕ → ℕ) (shapes : ℕ → Shape) → PassesBinders (freely to shapes)
PassesBinders-freely to shapes =
    PassesBinders-moves (freely to shapes) (λ d v. renamed_variable to v) (λ d x. refl) (λ d v. refl)
    (renaming_moves to)

-- putting a shape changes no captured variable
still_moves : MovesOutwards (λ d v. v)
still_moves = record { newest = λ d v e. e; newest_stays = λ d. refl; index = λ d i. refl; position = λ d p. refl }

still_element : (x : Elem) → single x ≡ single (moved_element (λ v. v) x)
still_element (Variable v) = refl
still_element Cap = refl
still_element (Hole n) = refl

pub PassesBinders-putting_shape : (by : Shape) → PassesBinders (putting_shape by)
PassesBinders-putting_shape by =
    PassesBinders-moves (putting_shape by) (λ d v. v) (λ d x. still_element x) (λ d v. refl) still_moves

pub captured_variables-putting_shape : (by : Shape) (d : ℕ) (t : Term)
    → captured_variables (act_term (putting_shape by) d t) ≡ captured_variables t
captured_variables-putting_shape by d t =
    captured_variables-act (putting_shape by) (PassesBinders-putting_shape by) d t
    ∙ act_set-keeping d (captured_variables t)

-- filling, where no filling has an index
outside_closed : (x : Elem) → IsAskedOf (HasBinder 0) x → outside x ≡ single x
outside_closed (Variable (Bound i)) h = absurd (omega arith)
outside_closed (Variable (Free p)) h = refl
outside_closed Cap h = refl
outside_closed (Hole n) h = refl

pub without_binder-closed : (c : Set) → MeetsInSet (bound_within 0) 0 c → without_binder c ≡ c
without_binder-closed c m =
    flat_image-congruent outside single c (λ x h. outside_closed x (m x h)) ∙ act_set-keeping 0 c

pub PassesBinders-filling_in : (filling : ℕ → Set) → ((h : ℕ) → MeetsInSet (bound_within 0) 0 (filling h))
    → PassesBinders (filling_in filling)
PassesBinders-filling_in filling closed = record {
  variables = λ d v. refl;
  outwards = outwards;
  newest = λ d x h. newest x h;
  newest_stays = λ d. refl;
}
  where
    outwards : (d : ℕ) (x : Elem)
        → flat_image outside (filled_element filling x) ≡ flat_image (filled_element filling) (outside x)
    outwards d (Variable (Bound zero)) =
        flat_image-of_single outside (Variable (Bound zero)) ∙ sym (flat_image-empty (filled_element filling))
    outwards d (Variable (Bound (suc i))) =
        flat_image-of_single outside (Variable (Bound (suc i)))
        ∙ sym (flat_image-of_single (filled_element filling) (Variable (Bound i)))
    outwards d (Variable (Free p)) =
        flat_image-of_single outside (Variable (Free p))
        ∙ sym (flat_image-of_single (filled_element filling) (Variable (Free p)))
    outwards d Cap = flat_image-of_single outside Cap ∙ sym (flat_image-of_single (filled_element filling) Cap)
    outwards d (Hole n) =
        without_binder-closed (filling n) (closed n) ∙ sym (flat_image-of_single (filled_element filling) (Hole n))

    newest : (x : Elem) → Member (Variable (Bound zero)) (filled_element filling x) → x ≡ Variable (Bound zero)
    newest (Variable v) h = sym (Member-single (Variable (Bound zero)) (Variable v) h)
    newest Cap h = let clash : Variable (Bound zero) ≡ Cap = Member-single (Variable (Bound zero)) Cap h in cc
    newest (Hole n) h = let none : zero < 0 = closed n (Variable (Bound zero)) h in absurd (omega arith)
