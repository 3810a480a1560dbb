-- What a term captures it names.
use Rattle.std.proofs.Common.{◌≡◌, ℕ, zero, suc, Bool, true, false, cond, ◌||◌, Option, Some, None, sym, subst, inl, inr}
use Rattle.std.proofs.lemmas.Bool.{or_left, or_right}
use Rattle.cc_capture.specs.declared.var.Var.{Var}
use Rattle.cc_capture.specs.declared.var.Var.TheVariants.{Bound, Free}
use Rattle.cc_capture.specs.declared.var.Elem.{Elem}
use Rattle.cc_capture.specs.declared.var.Elem.TheVariants.{Var as Variable, Cap, Hole}
use Rattle.cc_capture.specs.Sets.{Set, Member, union}
use Rattle.cc_capture.proofs.Equality.{same_variable-decides}
use Rattle.cc_capture.proofs.Membership.{Member-flat_image, Member-union, Member-empty}
use Rattle.cc_core.specs.Captured.{outside, without_binder, variable_set, optional_set, optional_variable_set, is_unused_value, captured_variables}
use Rattle.cc_core.specs.Terms.{Term, VariableTerm, LiteralTerm, FunctionTerm, TypeFunctionTerm, BoxTerm, Application, TypeApplication, Unboxing, Let, Primitive, Conditional, Repetition, Operation, Boundary, Leave}
use Rattle.cc_core.proofs.Moving.{Member-single}
use Rattle.cc_binding.specs.NamedDevices.{is_position, is_argument, is_in_optional_set, names_position}

-- a free position that stands outside a binder stands under it
from_outside : (p : ℕ) (e : Elem) → Member (Variable (Free p)) (outside e) → Variable (Free p) ≡ e
from_outside p (Variable (Bound zero)) m = absurd (Member-empty (Variable (Free p)) m)
from_outside p (Variable (Bound (suc i))) m = let clash : Variable (Free p) ≡ Variable (Bound i) = Member-single (Variable (Free p)) (Variable (Bound i)) m in cc
from_outside p (Variable (Free q)) m = Member-single (Variable (Free p)) (Variable (Free q)) m
from_outside p Cap m = Member-single (Variable (Free p)) Cap m
from_outside p (Hole n) m = Member-single (Variable (Free p)) (Hole n) m

from_without : (p : ℕ) (c : Set) → Member (Variable (Free p)) (without_binder c) → Member (Variable (Free p)) c
from_without p c m =
    let from = (Member-flat_image outside (Variable (Free p)) c).0 m in
    subst (λ x. Member x c) (sym (from_outside p from.0 from.2)) from.1

-- the set of one variable, and of one that may not be there
in_variable : (p : ℕ) (v : Var) → Member (Variable (Free p)) (variable_set v) → is_position p v ≡ true
in_variable p v m =
    let same : Variable (Free p) ≡ Variable v = Member-single (Variable (Free p)) (Variable v) m in
    let is : Free p ≡ v = cc in
    (same_variable-decides (Free p) v).1 is

in_argument : (p : ℕ) (o : Option Var) → Member (Variable (Free p)) (optional_variable_set o) → is_argument p o ≡ true
in_argument p None m = absurd (Member-empty (Variable (Free p)) m)
in_argument p (Some v) m = in_variable p v m

in_set : (p : ℕ) (o : Option Set) → Member (Variable (Free p)) (optional_set o) → is_in_optional_set p o ≡ true
in_set p None m = absurd (Member-empty (Variable (Free p)) m)
in_set p (Some c) m = m

-- of a union, what each side names
module _ (p : ℕ) where
  of_union : (a b : Set) (x y : Bool) → (Member (Variable (Free p)) a → x ≡ true) → (Member (Variable (Free p)) b → y ≡ true)
      → Member (Variable (Free p)) (union a b) → (x || y) ≡ true
  of_union a b x y left right m =
      elim ((Member-union (Variable (Free p)) a b).0 m) as (λ _. (x || y) ≡ true) [
        | inl l ↦ or_left x y (left l)
        | inr r ↦ or_right x y (right r)
      ]

  of_choice : (u : Bool) (a b : Set) (x y : Bool) → (Member (Variable (Free p)) a → x ≡ true) → (Member (Variable (Free p)) b → y ≡ true)
      → Member (Variable (Free p)) (cond u b (union a b)) → (x || y) ≡ true
  of_choice true a b x y left right m = or_right x y (right m)
  of_choice false a b x y left right m = of_union a b x y left right m

  two_variables : (v w : Var) → Member (Variable (Free p)) (union (variable_set v) (variable_set w)) → (is_position p v || is_position p w) ≡ true
  two_variables v w = of_union (variable_set v) (variable_set w) (is_position p v) (is_position p w) (in_variable p v) (in_variable p w)

  pub captured_is_named : (t : Term) → Member (Variable (Free p)) (captured_variables t) → names_position p t ≡ true
  captured_is_named (VariableTerm v) m = in_variable p v m
  captured_is_named (LiteralTerm l) m = absurd (Member-empty (Variable (Free p)) m)
  captured_is_named (FunctionTerm s c t) m = captured_is_named t (from_without p (captured_variables t) m)
  captured_is_named (TypeFunctionTerm s t) m = captured_is_named t (from_without p (captured_variables t) m)
  captured_is_named (BoxTerm v) m = absurd (Member-empty (Variable (Free p)) m)
  captured_is_named (Application v w) m = two_variables v w m
  captured_is_named (TypeApplication v s) m = in_variable p v m
  captured_is_named (Unboxing o v) m = of_union (optional_set o) (variable_set v) (is_in_optional_set p o) (is_position p v) (in_set p o) (in_variable p v) m
  captured_is_named (Let n s t) m =
      of_choice (is_unused_value s (captured_variables t)) (captured_variables s) (without_binder (captured_variables t)) (names_position p s) (names_position p t)
      (captured_is_named s) (λ k. captured_is_named t (from_without p (captured_variables t) k)) m
  captured_is_named (Primitive o v w) m = two_variables v w m
  captured_is_named (Conditional n v s t) m =
      of_union (variable_set v) (union (captured_variables s) (captured_variables t)) (is_position p v) (names_position p s || names_position p t) (in_variable p v)
      (of_union (captured_variables s) (captured_variables t) (names_position p s) (names_position p t) (captured_is_named s) (captured_is_named t)) m
  captured_is_named (Repetition v w) m = two_variables v w m
  captured_is_named (Operation o v w) m = of_union (variable_set v) (optional_variable_set w) (is_position p v) (is_argument p w) (in_variable p v) (in_argument p w) m
  captured_is_named (Boundary s t) m = captured_is_named t (from_without p (captured_variables t) m)
  captured_is_named (Leave s c v w) m = two_variables v w m
