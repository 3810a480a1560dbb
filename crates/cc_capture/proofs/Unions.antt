-- How unions and inclusion behave.
use Rattle.std.proofs.Common.{◌≡◌, Bool, true, false, ◌||◌, inl, inr, refl, ◌∙◌}
use Rattle.cc_capture.specs.declared.var.Elem.{Elem}
use Rattle.cc_capture.specs.Sets.{Set, contains, empty, insert, union}
use Rattle.cc_capture.proofs.Membership.{same_contains, contains-empty, contains-insert, contains-union}

or_associative : (a b c : Bool) → ((a || b) || c) ≡ (a || (b || c))
or_associative true b c = refl
or_associative false b c = refl

pub or_commutative : (a b : Bool) → (a || b) ≡ (b || a)
or_commutative true true = refl
or_commutative true false = refl
or_commutative false true = refl
or_commutative false false = refl

or_idempotent : (a : Bool) → (a || a) ≡ a
or_idempotent true = refl
or_idempotent false = refl

pub union_associative : (a b c : Set) → union (union a b) c ≡ union a (union b c)
union_associative a b c =
    same_contains _ _ (λ e. rw (
      contains-union e (union a b) c,
      contains-union e a b,
      contains-union e a
          (union b c),
      contains-union e b c,
    ) (or_associative (contains e a) (contains e b) (contains e c)))

pub union_commutative : (a b : Set) → union a b ≡ union b a
union_commutative a b =
    same_contains _ _ (λ e. rw (contains-union e a b, contains-union e b a)
    (or_commutative (contains e a) (contains e b)))

pub union_idempotent : (a : Set) → union a a ≡ a
union_idempotent a = same_contains _ _ (λ e. rw (contains-union e a a) (or_idempotent (contains e a)))

pub empty-union : (a : Set) → union empty a ≡ a
empty-union a = same_contains _ _ (λ e. rw (contains-union e empty a, contains-empty e) refl)

pub union-empty : (a : Set) → union a empty ≡ a
union-empty a = union_commutative a empty ∙ empty-union a

pub union-insert : (x : Elem) (a b : Set) → union (insert x a) b ≡ insert x (union a b)
union-insert x a b =
    same_contains _ _ (λ e. rw (
      contains-union e (insert x a) b,
      contains-insert e x a,
      contains-insert e x
          (union a b),
      contains-union e a b,
    ) (or_associative _ (contains e a) (contains e b)))
