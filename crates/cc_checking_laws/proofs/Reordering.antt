-- What is asked in another order has the same least filling, and is served by the same.
use Rattle.std.proofs.Common.{ℕ, List, [], ◌∷◌, ◌++◌, refl, ap, subst}
use Rattle.cc_capture.specs.declared.var.Elem.{Elem}
use Rattle.cc_core.specs.Contexts.{Context}
use Rattle.cc_checking.specs.Outcomes.{Asked, IsBelow, Placed}
use Rattle.cc_checking.specs.Fillings.{Filling, IsServed, AllServed, IsAskedIn, Comes, global, capability, local, forced}
use Rattle.cc_checking_laws.specs.FillingLaws.{OrderDoesNotMatter}
use Rattle.cc_checking_laws.proofs.LeastFillings.{serves_all}

-- what comes where less is asked comes where more is
comes_more : (root : ℕ) (first second : List Placed) → ((asked : Asked) → IsAskedIn first asked → IsAskedIn second asked)
    → {g : Context} {x e : Elem} → Comes root first g x e → Comes root second g x e
comes_more root first second more (global below) = global below
comes_more root first second more capability = capability
comes_more root first second more (local from there m c) = local from there m (comes_more root first second more c)
comes_more root first second more (forced demand asked is m c) = forced demand (more (IsBelow demand) asked) is m (comes_more root first second more c)

-- a filling serves all that is asked where it serves each
served_each : (f : Filling) (list : List Placed) → AllServed f list → (asked : Asked) → IsAskedIn list asked → IsServed f asked
served_each f list all asked (before, p, after, is, same) = subst (IsServed f) same (inside before (subst (AllServed f) is all))
  where
    inside : (before : List Placed) → AllServed f (before ++ p ∷ after) → IsServed f p.asked
    inside [] all = all.0
    inside (x ∷ before) all = inside before all.1

pub order_does_not_matter : OrderDoesNotMatter
order_does_not_matter root first second f same = (
  (
    λ least hole e. (λ m. comes_more root first second (λ a. (same a).0) ((least hole e).0 m), λ c. (least hole e).1 (comes_more root second first (λ a. (same a).1) c)),
    λ least hole e. (λ m. comes_more root second first (λ a. (same a).1) ((least hole e).0 m), λ c. (least hole e).1 (comes_more root first second (λ a. (same a).0) c)),
  ),
  (
    λ all. serves_all f second (λ a asked. served_each f first all a ((same a).1 asked)),
    λ all. serves_all f first (λ a asked. served_each f second all a ((same a).0 asked)),
  ),
)
