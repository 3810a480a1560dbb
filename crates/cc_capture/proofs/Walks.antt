-- A walk over a set by index: what its first members are, and what functions make of them.
use Rattle.std.proofs.Common.{◌≡◌, zero, suc, ◌<◌, ◌||◌, ◌≤◌, ℕ, ◌+◌, Bool, true, false, Some, List, [], ◌∷◌, ◌++◌}
use Rattle.std.proofs.Common.{length, take, refl, ap, ◌∙◌, arith}
use Rattle.std.specs.List.{slice_get}
use Rattle.std.proofs.lemmas.List.Folds.{list_any-append}
use Rattle.std.proofs.lemmas.Option.{slice_get_within, get_or_from_slice_get}
use Rattle.cc_capture.specs.declared.var.Elem.{Elem}
use Rattle.cc_capture.specs.Elements.{same_element}
use Rattle.cc_capture.specs.Rising.{is_listed}
use Rattle.cc_capture.specs.Sets.{Set, Member, insert, from_list, union, flat_image}
use Rattle.cc_capture.proofs.Membership.{same_contains, contains-from_list, contains-insert, Member-list}
use Rattle.cc_capture.proofs.Images.{flat_image-insert}

last_first : (a b : Bool) → (a || (b || false)) ≡ (b || a)
last_first true true = refl
last_first true false = refl
last_first false true = refl
last_first false false = refl

pub from_list-push : (xs : List Elem) (x : Elem) → from_list (xs ++ x ∷ []) ≡ insert x (from_list xs)
from_list-push xs x =
    same_contains _ _
    (λ e. rw (
      contains-from_list e (xs ++ x ∷ []),
      contains-insert e x
          (from_list xs),
      contains-from_list e xs,
      list_any-append (same_element e) xs (x ∷ []),
    )
    (last_first (is_listed e xs) (same_element e x)))

-- there is an element at each index within the list
pub Some-within : (xs : List Elem) (i : ℕ) → i < length xs → (x : Elem) × (slice_get xs i ≡ Some x)
Some-within [] i h = absurd (omega arith)
Some-within (x ∷ xs) zero h = (x, refl)
Some-within (x ∷ xs) (suc i) h = Some-within xs i (omega arith)

-- the element at an index is a member
pub Member-at : (s : Set) (i : ℕ) (x : Elem) → slice_get s.list i ≡ Some x → Member x s
Member-at s i x e =
    let within = slice_get_within s.list i x e in
    (Member-list x s).1 (i, within, get_or_from_slice_get s.list i x x e)

-- what a function makes of the elements that were gone over, and of the next one
pub flat_image-push : (f : Elem → Set) (xs : List Elem) (x : Elem)
    → flat_image f (from_list (xs ++ x ∷ [])) ≡ union (f x) (flat_image f (from_list xs))
flat_image-push f xs x = ap (flat_image f) (from_list-push xs x) ∙ flat_image-insert f x (from_list xs)
