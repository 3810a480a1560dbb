-- What a term captures is what occurs in it outside boxes.
use Rattle.std.proofs.Common.{◌≡◌, ◌↔◌, ◌⊎◌, ℕ, zero, suc, Bool, true, false, cond, not, ◌&&◌, Some, None, refl, sym, ap, subst, inl, inr}
use Rattle.std.proofs.lemmas.Bool.{both_ways}
use Rattle.cc_capture.specs.declared.var.Var.{Var}
use Rattle.cc_capture.specs.declared.var.Var.TheVariants.{Bound, Free}
use Rattle.cc_capture.specs.declared.var.Elem.{Elem}
use Rattle.cc_capture.specs.declared.var.Elem.TheVariants.{Var as Variable, Cap, Hole}
use Rattle.cc_capture.specs.Sets.{Set, Member, contains, empty, union}
use Rattle.cc_capture.proofs.Membership.{Member-flat_image, Member-union, Member-empty}
use Rattle.cc_core.specs.Shapes.{Shape}
use Rattle.cc_core.specs.Terms.{Note, Term, VariableTerm, LiteralTerm, FunctionTerm, TypeFunctionTerm, BoxTerm, Application, TypeApplication, Unboxing, Let, Primitive, Conditional, Repetition, Operation, Boundary, Leave}
use Rattle.cc_core.specs.Captured.{is_value, outside, without_binder, variable_set, optional_set, is_unused_value, captured_variables}
use Rattle.cc_core.proofs.Moving.{Member-single, Member-single_itself}
use Rattle.cc_calculus_laws.specs.Occurring.{under_binder, IsOperand, IsBody, of_function, of_type_function, of_let, of_boundary, IsBranch, positive, negative, IsValue, literal, function, type_function, box, OccursOutsideBoxes, as_operand, in_opening_set, in_body, in_branch, in_right_side}

-- what stands outside a binder
from_outside : (e x : Elem) → Member x (outside e) → under_binder x ≡ e
from_outside (Variable (Bound zero)) x m = absurd (Member-empty x m)
from_outside (Variable (Bound (suc i))) x m = ap under_binder (Member-single x (Variable (Bound i)) m)
from_outside (Variable (Free p)) x m = ap under_binder (Member-single x (Variable (Free p)) m)
from_outside Cap x m = ap under_binder (Member-single x Cap m)
from_outside (Hole n) x m = ap under_binder (Member-single x (Hole n) m)

to_outside : (x : Elem) → Member x (outside (under_binder x))
to_outside (Variable (Bound i)) = Member-single_itself (Variable (Bound i))
to_outside (Variable (Free p)) = Member-single_itself (Variable (Free p))
to_outside Cap = Member-single_itself Cap
to_outside (Hole n) = Member-single_itself (Hole n)

from_without : (x : Elem) (c : Set) → Member x (without_binder c) → Member (under_binder x) c
from_without x c m = let from = (Member-flat_image outside x c).0 m in subst (λ y. Member y c) (sym (from_outside from.0 x from.2)) from.1

to_without : (x : Elem) (c : Set) → Member (under_binder x) c → Member x (without_binder c)
to_without x c m = (Member-flat_image outside x c).1 (under_binder x, m, to_outside x)

-- operands
is_variable : (x : Elem) (v : Var) (t : Term) → IsOperand v t → Member x (variable_set v) → OccursOutsideBoxes t x
is_variable x v t o m = subst (OccursOutsideBoxes t) (sym (Member-single x (Variable v) m)) (as_operand o)

two_variables : (x : Elem) (v w : Var) (t : Term) → IsOperand v t → IsOperand w t → Member x (union (variable_set v) (variable_set w)) → OccursOutsideBoxes t x
two_variables x v w t o p m =
    elim ((Member-union x (variable_set v) (variable_set w)).0 m) as (λ _. OccursOutsideBoxes t x) [ inl l ↦ is_variable x v t o l | inr r ↦ is_variable x w t p r ]

itself : (v w : Var) → v ≡ w → Member (Variable v) (variable_set w)
itself v w e = subst (λ x. Member (Variable x) (variable_set w)) (sym e) (Member-single_itself (Variable w))

either : (v w x : Var) → (v ≡ w) ⊎ (v ≡ x) → Member (Variable v) (union (variable_set w) (variable_set x))
either v w x (inl e) = (Member-union (Variable v) (variable_set w) (variable_set x)).1 (inl (itself v w e))
either v w x (inr e) = (Member-union (Variable v) (variable_set w) (variable_set x)).1 (inr (itself v x e))

-- values
a_value : (t : Term) → is_value t ≡ true → IsValue t
a_value (LiteralTerm l) e = literal
a_value (FunctionTerm s c t) e = function
a_value (TypeFunctionTerm s t) e = type_function
a_value (BoxTerm v) e = box
a_value _ e = cc

no_value : (t : Term) → is_value t ≡ false → IsValue t → ⊥
no_value t e literal = cc
no_value t e function = cc
no_value t e type_function = cc
no_value t e box = cc

-- the right side of a let
right_counts : (s : Term) (c : Set) → is_unused_value s c ≡ false → IsValue s → Member (Variable (Bound zero)) c
right_counts s c e v = by_value (is_value s) refl (contains (Variable (Bound zero)) c) refl e
  where
    by_value : (b : Bool) → is_value s ≡ b → (m : Bool) → contains (Variable (Bound zero)) c ≡ m → (b && not m) ≡ false → Member (Variable (Bound zero)) c
    by_value true is true k e = k
    by_value true is false k e = cc
    by_value false is m k e = absurd (no_value s is v)

right_unused : (s : Term) (c : Set) → is_unused_value s c ≡ true → IsValue s × (contains (Variable (Bound zero)) c ≡ false)
right_unused s c e = by_value (is_value s) refl (contains (Variable (Bound zero)) c) refl e
  where
    by_value : (b : Bool) → is_value s ≡ b → (m : Bool) → contains (Variable (Bound zero)) c ≡ m → (b && not m) ≡ true → IsValue s × (contains (Variable (Bound zero)) c ≡ false)
    by_value true is true k e = cc
    by_value true is false k e = (a_value s is, k)
    by_value false is m k e = cc

let_occurs : (b : Bool) (n : Note) (s t : Term) (x : Elem) → is_unused_value s (captured_variables t) ≡ b
    → ((y : Elem) → Member y (captured_variables s) → OccursOutsideBoxes s y) → ((y : Elem) → Member y (captured_variables t) → OccursOutsideBoxes t y)
    → Member x (cond b (without_binder (captured_variables t)) (union (captured_variables s) (without_binder (captured_variables t))))
    → OccursOutsideBoxes (Let n s t) x
let_occurs true n s t x e right body m = in_body of_let (body (under_binder x) (from_without x (captured_variables t) m))
let_occurs false n s t x e right body m =
    elim ((Member-union x (captured_variables s) (without_binder (captured_variables t))).0 m) as (λ _. OccursOutsideBoxes (Let n s t) x) [
      | inl l ↦ in_right_side (λ v. body (Variable (Bound zero)) (right_counts s (captured_variables t) e v)) (right x l)
      | inr r ↦ in_body of_let (body (under_binder x) (from_without x (captured_variables t) r))
    ]

-- what is captured occurs
occurs : (t : Term) (x : Elem) → Member x (captured_variables t) → OccursOutsideBoxes t x
occurs (VariableTerm v) x m = is_variable x v (VariableTerm v) refl m
occurs (LiteralTerm l) x m = absurd (Member-empty x m)
occurs (FunctionTerm s c t) x m = in_body of_function (occurs t (under_binder x) (from_without x (captured_variables t) m))
occurs (TypeFunctionTerm s t) x m = in_body of_type_function (occurs t (under_binder x) (from_without x (captured_variables t) m))
occurs (BoxTerm v) x m = absurd (Member-empty x m)
occurs (Application v w) x m = two_variables x v w (Application v w) (inl refl) (inr refl) m
occurs (TypeApplication v s) x m = is_variable x v (TypeApplication v s) refl m
occurs (Unboxing (Some c) v) x m =
    elim ((Member-union x c (variable_set v)).0 m) as (λ _. OccursOutsideBoxes (Unboxing (Some c) v) x) [
      | inl l ↦ in_opening_set l
      | inr r ↦ is_variable x v (Unboxing (Some c) v) refl r
    ]
occurs (Unboxing None v) x m =
    elim ((Member-union x empty (variable_set v)).0 m) as (λ _. OccursOutsideBoxes (Unboxing None v) x) [
      | inl l ↦ absurd (Member-empty x l)
      | inr r ↦ is_variable x v (Unboxing None v) refl r
    ]
occurs (Let n s t) x m = let_occurs (is_unused_value s (captured_variables t)) n s t x refl (λ y k. occurs s y k) (λ y k. occurs t y k) m
occurs (Primitive o v w) x m = two_variables x v w (Primitive o v w) (inl refl) (inr refl) m
occurs (Conditional n v s t) x m =
    elim ((Member-union x (variable_set v) (union (captured_variables s) (captured_variables t))).0 m) as (λ _. OccursOutsideBoxes (Conditional n v s t) x) [
      | inl l ↦ is_variable x v (Conditional n v s t) refl l
      | inr r ↦
          elim ((Member-union x (captured_variables s) (captured_variables t)).0 r) as (λ _. OccursOutsideBoxes (Conditional n v s t) x) [
            | inl p ↦ in_branch positive (occurs s x p)
            | inr q ↦ in_branch negative (occurs t x q)
          ]
    ]
occurs (Repetition v w) x m = two_variables x v w (Repetition v w) (inl refl) (inr refl) m
occurs (Operation o v (Some w)) x m = two_variables x v w (Operation o v (Some w)) (inl refl) (inr refl) m
occurs (Operation o v None) x m =
    elim ((Member-union x (variable_set v) empty).0 m) as (λ _. OccursOutsideBoxes (Operation o v None) x) [
      | inl l ↦ is_variable x v (Operation o v None) (inl refl) l
      | inr r ↦ absurd (Member-empty x r)
    ]
occurs (Boundary s t) x m = in_body of_boundary (occurs t (under_binder x) (from_without x (captured_variables t) m))
occurs (Leave s c v w) x m = two_variables x v w (Leave s c v w) (inl refl) (inr refl) m

-- an operand is captured
operand_captured : (v : Var) (t : Term) → IsOperand v t → Member (Variable v) (captured_variables t)
operand_captured v (VariableTerm w) o = itself v w o
operand_captured v (LiteralTerm l) o = absurd o
operand_captured v (FunctionTerm s c t) o = absurd o
operand_captured v (TypeFunctionTerm s t) o = absurd o
operand_captured v (BoxTerm w) o = absurd o
operand_captured v (Application w x) o = either v w x o
operand_captured v (TypeApplication w s) o = itself v w o
operand_captured v (Unboxing c w) o = (Member-union (Variable v) (optional_set c) (variable_set w)).1 (inr (itself v w o))
operand_captured v (Let n s t) o = absurd o
operand_captured v (Primitive p w x) o = either v w x o
operand_captured v (Conditional n w s t) o = (Member-union (Variable v) (variable_set w) (union (captured_variables s) (captured_variables t))).1 (inl (itself v w o))
operand_captured v (Repetition w x) o = either v w x o
operand_captured v (Operation p w None) (inl e) = (Member-union (Variable v) (variable_set w) empty).1 (inl (itself v w e))
operand_captured v (Operation p w None) (inr e) = cc
operand_captured v (Operation p w (Some x)) (inl e) = either v w x (inl e)
operand_captured v (Operation p w (Some x)) (inr e) = let same : v ≡ x = cc in either v w x (inr same)
operand_captured v (Boundary s t) o = absurd o
operand_captured v (Leave s c w x) o = either v w x o

-- what a body captures outside the binder, a let captures in any case
let_captures_body : (b : Bool) (s t : Set) (x : Elem) → Member x t → Member x (cond b t (union s t))
let_captures_body true s t x m = m
let_captures_body false s t x m = (Member-union x s t).1 (inr m)

let_captures_right : (b : Bool) (s : Term) (c : Set) (d : Set) (x : Elem) → is_unused_value s c ≡ b → (IsValue s → Member (Variable (Bound zero)) c)
    → Member x (captured_variables s) → Member x (cond b d (union (captured_variables s) d))
let_captures_right true s c d x e used m = let p = right_unused s c e in absurd (both_ways _ p.1 (used p.0))
let_captures_right false s c d x e used m = (Member-union x (captured_variables s) d).1 (inl m)

body_captured : {t u : Term} (x : Elem) → IsBody u t → Member (under_binder x) (captured_variables u) → Member x (captured_variables t)
body_captured {u = u} x of_function m = to_without x (captured_variables u) m
body_captured {u = u} x of_type_function m = to_without x (captured_variables u) m
body_captured {u = u} x (of_let {right = s}) m =
    let_captures_body (is_unused_value s (captured_variables u)) (captured_variables s) (without_binder (captured_variables u)) x (to_without x (captured_variables u) m)
body_captured {u = u} x of_boundary m = to_without x (captured_variables u) m

branch_captured : {t u : Term} (x : Elem) → IsBranch u t → Member x (captured_variables u) → Member x (captured_variables t)
branch_captured {u = u} x (positive {test = v} {other = s}) m =
    (Member-union x (variable_set v) (union (captured_variables u) (captured_variables s))).1 (inr ((Member-union x (captured_variables u) (captured_variables s)).1 (inl m)))
branch_captured {u = u} x (negative {test = v} {other = s}) m =
    (Member-union x (variable_set v) (union (captured_variables s) (captured_variables u))).1 (inr ((Member-union x (captured_variables s) (captured_variables u)).1 (inr m)))

-- what occurs is captured
captured : {t : Term} {x : Elem} → OccursOutsideBoxes t x → Member x (captured_variables t)
captured (as_operand {term = t} {variable = v} o) = operand_captured v t o
captured (in_opening_set {set = c} {opened = v} {e = x} m) = (Member-union x c (variable_set v)).1 (inl m)
captured (in_body {e = x} b o) = body_captured x b (captured o)
captured (in_branch {e = x} b o) = branch_captured x b (captured o)
captured (in_right_side {right = s} {body = t} {e = x} used o) =
    let_captures_right (is_unused_value s (captured_variables t)) s (captured_variables t) (without_binder (captured_variables t)) x refl (λ v. captured (used v)) (captured o)

pub captured_where_it_occurs : (t : Term) (x : Elem) → Member x (captured_variables t) ↔ OccursOutsideBoxes t x
captured_where_it_occurs t x = (occurs t x, captured)

pub closed_over : (s : Shape) (c : Set) (t : Term) (p : ℕ) → Member (Variable (Free p)) (captured_variables (FunctionTerm s c t)) ↔ OccursOutsideBoxes t (Variable (Free p))
closed_over s c t p = (
  λ m. occurs t (Variable (Free p)) (from_without (Variable (Free p)) (captured_variables t) m),
  λ o. to_without (Variable (Free p)) (captured_variables t) (captured o),
)

pub values_told : (t : Term) → (is_value t ≡ true) ↔ IsValue t
values_told t = (a_value t, told)
  where
    told : {t : Term} → IsValue t → is_value t ≡ true
    told literal = refl
    told function = refl
    told type_function = refl
    told box = refl
