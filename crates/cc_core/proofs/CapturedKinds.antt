-- The captured variables of a well-formed term are well formed, and those of an opened body are those of the body and the
-- position.
use Rattle.std.proofs.Common.{◌≡◌, ◌⊎◌, ℕ, zero, suc, List, ◌∷◌, Option, Some, None, inl, inr, sym, subst, arith}
use Rattle.std.proofs.lemmas.Bool.{cond_both}
use Rattle.cc_capture.specs.declared.var.Var.{Var}
use Rattle.cc_capture.specs.declared.var.Var.TheVariants.{Bound, Free}
use Rattle.cc_capture.specs.declared.var.Elem.{Elem}
use Rattle.cc_capture.specs.declared.var.Elem.TheVariants.{Var as Variable, Cap, Hole}
use Rattle.cc_capture.specs.Sets.{Set, Member, empty, union}
use Rattle.cc_capture.proofs.Membership.{Member-flat_image, Member-union, Member-empty}
use Rattle.cc_core.specs.Terms.{Term, VariableTerm, LiteralTerm, FunctionTerm, TypeFunctionTerm, BoxTerm, Application, TypeApplication, Unboxing, Let, Primitive, Conditional, Repetition, Operation, Boundary, Leave}
use Rattle.cc_core.specs.Substitution.{single, moved_element, put_variable, opened_set}
use Rattle.cc_core.specs.Captured.{outside, without_binder, variable_set, optional_set, optional_variable_set, is_unused_value, captured_variables}
use Rattle.cc_core.specs.WellFormed.{Kind, TermKind, TypeKind}
use Rattle.cc_core.specs.Occurrences.{MeetsInSet, IsAskedOf, HasBinder, bound_within}
use Rattle.cc_core.proofs.Moving.{Member-single, Member-single_itself}
use Rattle.cc_core.proofs.KindFacts.{IsOfKind, IsKindedElement, IsKindedSet, IsKindedOptionalSet, IsKindedOptional, IsKindedTerm}
use Rattle.cc_core.proofs.KindRespecting.{single_kinded}

module _ (kinds : List Kind) where
  pub empty_kinded : (passed : List Kind) → IsKindedSet kinds passed empty
  empty_kinded passed x h = absurd (Member-empty x h)

  pub union_kinded : (passed : List Kind) (a b : Set) → IsKindedSet kinds passed a → IsKindedSet kinds passed b
      → IsKindedSet kinds passed (union a b)
  union_kinded passed a b p q x h =
      elim ((Member-union x a b).0 h) as (λ _. IsKindedElement kinds passed x)
      [ inl left ↦ p x left | inr right ↦ q x right ]

  pub outside_kinded : (passed : List Kind) (kind : Kind) (x : Elem) → IsKindedElement kinds (kind ∷ passed) x
      → IsKindedSet kinds passed (outside x)
  outside_kinded passed kind (Variable (Bound zero)) k = empty_kinded passed
  outside_kinded passed kind (Variable (Bound (suc i))) k = single_kinded kinds passed (Variable (Bound i)) k
  outside_kinded passed kind (Variable (Free p)) k = single_kinded kinds passed (Variable (Free p)) k
  outside_kinded passed kind Cap k = single_kinded kinds passed Cap tt
  outside_kinded passed kind (Hole n) k = single_kinded kinds passed (Hole n) tt

  pub without_binder_kinded : (passed : List Kind) (kind : Kind) (c : Set) → IsKindedSet kinds (kind ∷ passed) c
      → IsKindedSet kinds passed (without_binder c)
  without_binder_kinded passed kind c k x h =
      let from = (Member-flat_image outside x c).0 h in
      outside_kinded passed kind from.0 (k from.0 from.1) x from.2

  pub variable_kinded : (passed : List Kind) (v : Var) → IsOfKind kinds passed v TermKind
      → IsKindedSet kinds passed (variable_set v)
  variable_kinded passed v k = single_kinded kinds passed (Variable v) k

  pub two_kinded : (passed : List Kind) (v w : Var) → IsOfKind kinds passed v TermKind → IsOfKind kinds passed w TermKind
      → IsKindedSet kinds passed (union (variable_set v) (variable_set w))
  two_kinded passed v w p q =
      union_kinded passed (variable_set v) (variable_set w) (variable_kinded passed v p) (variable_kinded passed w q)

  pub optional_set_kinded : (passed : List Kind) (o : Option Set) → IsKindedOptionalSet kinds passed o
      → IsKindedSet kinds passed (optional_set o)
  optional_set_kinded passed None k = empty_kinded passed
  optional_set_kinded passed (Some c) k = k

  pub optional_kinded : (passed : List Kind) (o : Option Var) → IsKindedOptional kinds passed o
      → IsKindedSet kinds passed (optional_variable_set o)
  optional_kinded passed None k = empty_kinded passed
  optional_kinded passed (Some v) k = variable_kinded passed v k

  pub captured_variables_kinded : (passed : List Kind) (t : Term) → IsKindedTerm kinds passed t
      → IsKindedSet kinds passed (captured_variables t)
  captured_variables_kinded passed (VariableTerm v) k = variable_kinded passed v k
  captured_variables_kinded passed (LiteralTerm l) k = empty_kinded passed
  captured_variables_kinded passed (FunctionTerm s c t) k =
      without_binder_kinded passed TermKind (captured_variables t)
      (captured_variables_kinded (TermKind ∷ passed) t k.2)
  captured_variables_kinded passed (TypeFunctionTerm s t) k =
      without_binder_kinded passed TypeKind (captured_variables t)
      (captured_variables_kinded (TypeKind ∷ passed) t k.1)
  captured_variables_kinded passed (BoxTerm v) k = empty_kinded passed
  captured_variables_kinded passed (Application v w) k = two_kinded passed v w k.0 k.1
  captured_variables_kinded passed (TypeApplication v s) k = variable_kinded passed v k.0
  captured_variables_kinded passed (Unboxing o v) k =
      union_kinded passed (optional_set o) (variable_set v) (optional_set_kinded passed o k.0)
      (variable_kinded passed v k.1)
  captured_variables_kinded passed (Let n s t) k =
      let body : IsKindedSet kinds passed (without_binder (captured_variables t)) = without_binder_kinded passed TermKind (captured_variables t) (captured_variables_kinded (TermKind ∷ passed) t k.2) in
      cond_both (is_unused_value s (captured_variables t)) (without_binder (captured_variables t)) (union (captured_variables s) (without_binder (captured_variables t))) (IsKindedSet kinds passed)
      (λ _. body)
      (λ _. union_kinded passed (captured_variables s) (without_binder (captured_variables t)) (captured_variables_kinded passed s k.1) body)
  captured_variables_kinded passed (Primitive p v w) k = two_kinded passed v w k.0 k.1
  captured_variables_kinded passed (Conditional n v s t) k =
      union_kinded passed (variable_set v) (union (captured_variables s) (captured_variables t)) (variable_kinded passed v k.1)
      (union_kinded passed (captured_variables s) (captured_variables t) (captured_variables_kinded passed s k.2) (captured_variables_kinded passed t k.3))
  captured_variables_kinded passed (Repetition v w) k = two_kinded passed v w k.0 k.1
  captured_variables_kinded passed (Operation p v o) k =
      union_kinded passed (variable_set v) (optional_variable_set o) (variable_kinded passed v k.0)
      (optional_kinded passed o k.1)
  captured_variables_kinded passed (Boundary s t) k =
      without_binder_kinded passed TermKind (captured_variables t)
      (captured_variables_kinded (TermKind ∷ passed) t k.1)
  captured_variables_kinded passed (Leave s c v w) k = two_kinded passed v w k.2 k.3

-- an element of a body with one open index is, once opened, the position, or it stands outside of the binder
opened_element : (q : ℕ) (x y : Elem) → IsAskedOf (HasBinder 1) x → y ≡ moved_element (put_variable (Free q) zero) x
    → Member y (outside x) ⊎ (y ≡ Variable (Free q))
opened_element q (Variable (Bound zero)) y h e = inr e
opened_element q (Variable (Bound (suc i))) y h e = absurd (omega arith)
opened_element q (Variable (Free p)) y h e =
    inl (subst (λ z. Member z (single (Variable (Free p)))) (sym e) (Member-single_itself (Variable (Free p))))
opened_element q Cap y h e = inl (subst (λ z. Member z (single Cap)) (sym e) (Member-single_itself Cap))
opened_element q (Hole n) y h e =
    inl (subst (λ z. Member z (single (Hole n))) (sym e) (Member-single_itself (Hole n)))

outer_element : (q : ℕ) (x y : Elem) → IsAskedOf (HasBinder 1) x → Member y (outside x)
    → y ≡ moved_element (put_variable (Free q) zero) x
outer_element q (Variable (Bound zero)) y h m = absurd (Member-empty y m)
outer_element q (Variable (Bound (suc i))) y h m = absurd (omega arith)
outer_element q (Variable (Free p)) y h m = Member-single y (Variable (Free p)) m
outer_element q Cap y h m = Member-single y Cap m
outer_element q (Hole n) y h m = Member-single y (Hole n) m

pub opened_set-members : (q : ℕ) (c : Set) → MeetsInSet (bound_within 1) 0 c → (y : Elem) → Member y (opened_set q c)
    → Member y (without_binder c) ⊎ (y ≡ Variable (Free q))
opened_set-members q c m y h =
    let from = (Member-flat_image (λ x. single (moved_element (put_variable (Free q) zero) x)) y c).0 h in
    elim (opened_element q from.0 y (m from.0 from.1) (Member-single y (moved_element (put_variable (Free q) zero) from.0) from.2)) as (λ _. Member y (without_binder c) ⊎ (y ≡ Variable (Free q))) [
      | inl out ↦ inl ((Member-flat_image outside y c).1 (from.0, from.1, out))
      | inr here ↦ inr here
    ]

pub opened_set-outside : (q : ℕ) (c : Set) → MeetsInSet (bound_within 1) 0 c → (y : Elem)
    → Member y (without_binder c) → Member y (opened_set q c)
opened_set-outside q c m y h =
    let from = (Member-flat_image outside y c).0 h in
    (Member-flat_image (λ x. single (moved_element (put_variable (Free q) zero) x)) y c).1
    (from.0, from.1, subst (λ z. Member z (single (moved_element (put_variable (Free q) zero) from.0))) (sym (outer_element q from.0 y (m from.0 from.1) from.2)) (Member-single_itself (moved_element (put_variable (Free q) zero) from.0)))
