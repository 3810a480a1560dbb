-- The test of positions in shapes and the freeness that avoidance speaks of are one.
use Rattle.std.proofs.Common.{◌≡◌, ◌≢◌, ℕ, suc, Bool, true, false, ◌||◌, refl, sym, ap}
use Rattle.std.specs.Prelude.{nat_eq}
use Rattle.std.proofs.lemmas.Bool.{false_from_ne_true, eqb-true, eq-eqb}
use Rattle.cc_capture.specs.declared.var.Var.{Var}
use Rattle.cc_capture.specs.declared.var.Var.TheVariants.{Bound, Free}
use Rattle.cc_capture.specs.Sets.{Set}
use Rattle.cc_core.specs.Shapes.{Shape, BaseShape, AnyShape, TypeVariable, FunctionShape, TypeFunctionShape, BoxShape, ExitShape}
use Rattle.cc_core.specs.Occurrences.{Meets, MeetsInSet, without}
use Rattle.cc_core.proofs.OccurrenceTests.{SaysNo, position-decides}
use Rattle.cc_checking.specs.Avoidance.{has_position, is_position, is_free_in}

clash : {A : Type 0} {b : Bool} → b ≡ true → b ≡ false → A
clash holds fails = cc

two : (a b : Bool) (A B : Type 0) → SaysNo a A → SaysNo b B → SaysNo (a || b) (A × B)
two true b A B p q = (λ e. cc, λ h. p.1 h.0)
two false b A B p q = (λ e. (p.0 refl, q.0 e), λ h. q.1 h.1)

three : (a b c : Bool) (A B C : Type 0) → SaysNo a A → SaysNo b B → SaysNo c C → SaysNo (a || b || c) (A × B × C)
three true b c A B C p q r = (λ e. cc, λ h. p.1 h.0)
three false true c A B C p q r = (λ e. cc, λ h. q.1 h.1)
three false false c A B C p q r = (λ e. (p.0 refl, q.0 refl, r.0 e), λ h. r.1 h.2)

four : (a b c d : Bool) (A B C D : Type 0) → SaysNo a A → SaysNo b B → SaysNo c C → SaysNo d D → SaysNo (a || b || c || d) (A × B × C × D)
four true b c d A B C D p q r s = (λ e. cc, λ h. p.1 h.0)
four false true c d A B C D p q r s = (λ e. cc, λ h. q.1 h.1)
four false false true d A B C D p q r s = (λ e. cc, λ h. r.1 h.2)
four false false false d A B C D p q r s = (λ e. (p.0 refl, q.0 refl, r.0 refl, s.0 e), λ h. s.1 h.3)

position_says : (p : ℕ) (v : Var) → SaysNo (is_position p v) (v ≢ Free p)
position_says p (Free q) = (
  λ fails same. let is : p ≡ q = cc in clash (eq-eqb p q is) fails,
  λ other. false_from_ne_true (nat_eq p q) (λ holds. other (ap Free (sym (eqb-true p q holds)))),
)
position_says p (Bound index) = (λ fails same. cc, λ other. refl)

set_says : (p depth : ℕ) (set : Set) → SaysNo (has_position p set) (MeetsInSet (without p) depth set)
set_says p depth set = (position-decides p).in_set depth set

free_says : (p depth : ℕ) (shape : Shape) → SaysNo (is_free_in p shape) (Meets (without p) depth shape)
free_says p depth (BaseShape base) = (λ e. tt, λ h. refl)
free_says p depth AnyShape = (λ e. tt, λ h. refl)
free_says p depth (TypeVariable v) = position_says p v
free_says p depth (FunctionShape takes c gives e) =
    four _ _ _ _ _ _ _ _ (free_says p depth takes) (set_says p depth c) (free_says p (suc depth) gives) (set_says p (suc depth) e)
free_says p depth (TypeFunctionShape bound gives e) =
    three _ _ _ _ _ _ (free_says p depth bound) (free_says p (suc depth) gives) (set_says p (suc depth) e)
free_says p depth (BoxShape content c) = two _ _ _ _ (free_says p depth content) (set_says p depth c)
free_says p depth (ExitShape gives) = free_says p depth gives

same_says : (a b : Bool) (A : Type 0) → SaysNo a A → SaysNo b A → a ≡ b
same_says true true A p q = refl
same_says true false A p q = p.1 (q.0 refl)
same_says false true A p q = sym (q.1 (p.0 refl))
same_says false false A p q = refl

-- what says no of a position exactly where it does not occur says whether it is free
pub is_free : (test : Bool) (p : ℕ) (shape : Shape) → SaysNo test (Meets (without p) 0 shape) → test ≡ is_free_in p shape
is_free test p shape says = same_says test (is_free_in p shape) _ says (free_says p 0 shape)
