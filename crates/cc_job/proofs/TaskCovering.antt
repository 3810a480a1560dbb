-- Tasks that stand in a schedule.
use Rattle.std.proofs.Common.{◌≡◌, ℕ, zero, suc, ◌<◌, Bool, true, false, ◌&&◌, ◌==◌, List, refl, sym, subst, arith}
use Rattle.std.specs.List.{list_any}
use Rattle.std.proofs.lemmas.Bool.Decides.{nat_tests, Decides-eqb}
use Rattle.cc_job.specs.Jobs.{covers}

-- a task that does not stand in the schedule
pub covers_lacks : (n m : ℕ) (schedule : List ℕ) → n < m → list_any (λ number. number == n) schedule ≡ false → false ≡ covers m schedule
covers_lacks n zero schedule less lacks = absurd (omega arith)
covers_lacks n (suc m) schedule less lacks =
    elim (n == m) as (λ t. (n == m) ≡ t → false ≡ (covers m schedule && list_any (λ number. number == m) schedule)) [
      | true ↦ λ e. let none = subst (λ k. list_any (λ number. number == k) schedule ≡ false) ((Decides-eqb n m).0 e) lacks in rw none (sym (and_false (covers m schedule)))
      | false ↦ λ e. rw (sym (covers_lacks n m schedule (grind (arith, nat_tests)) lacks)) refl
    ] refl
  where
    and_false : (b : Bool) → (b && false) ≡ false
    and_false true = refl
    and_false false = refl
