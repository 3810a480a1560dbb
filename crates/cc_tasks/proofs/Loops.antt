-- Tasks that are looked at one by one.
use Rattle.std.proofs.Common.{◌≡◌, ◌↔◌, ◌<◌, ◌≤◌, ◌+◌, ℕ, Bool, true, List, [], ◌∷◌, ◌++◌, length, take, get_or, Some, IsTrue, refl, sym, ap, ◌∙◌, subst, arith}
use Rattle.std.specs.Prelude.{slice_get}
use Rattle.std.specs.List.{AllByRecursion, AllZip}
use Rattle.std.proofs.lemmas.List.{take_more}
use Rattle.std.proofs.lemmas.Option.{slice_get_read, slice_get_past, slice_get-get_or}
use Rattle.std.proofs.lemmas.Slice.Zip.{all_zipped_more}
use Rattle.cc_device.specs.declared.ends.End.{End}
use Rattle.cc_machine.specs.Machines.{held_by}
use Rattle.cc_runs.specs.Machine.{Final, step}
use Rattle.cc_tasks.specs.declared.task.Task.{Task}
use Rattle.cc_tasks.specs.Tasks.{HasEnded, IsEndOf}

-- what has ended
pub ended_there : (tasks : List Task) (n : ℕ) (some : Task) (b : Bool) → n < length tasks
    → (IsTrue b ↔ (step (held_by (get_or tasks n some).machine) ≡ Final)) → IsTrue b ↔ HasEnded (slice_get tasks n)
ended_there tasks n some b less is = subst (λ o. IsTrue b ↔ HasEnded o) (sym (slice_get-get_or tasks n some less)) is

pub ended_past : (tasks : List Task) (n : ℕ) → length tasks ≤ n → IsTrue true ↔ HasEnded (slice_get tasks n)
ended_past tasks n past = subst (λ o. IsTrue true ↔ HasEnded o) (sym (slice_get_past tasks n past)) (λ _. tt, λ _. refl)

pub task_there : (tasks : List Task) (n : ℕ) (task : Task) → n < length tasks → task ≡ get_or tasks n task → slice_get tasks n ≡ Some task
task_there tasks n task less at = slice_get_read tasks (length tasks) n task refl less at

pub awaited_within : (tasks : List Task) (n : ℕ) → (HasEnded (slice_get tasks n) → ⊥) → n < length tasks
awaited_within tasks n running =
    let not_past : length tasks ≤ n → ⊥ = λ past. running (subst HasEnded (sym (slice_get_past tasks n past)) tt) in
    omega (arith, not_past)

all_more : {A : Type 0} (P : A → Type 0) (xs : List A) (x : A) → AllByRecursion P xs → P x → AllByRecursion P (xs ++ x ∷ [])
all_more P [] x all here = (here, tt)
all_more P (y ∷ xs) x all here = (all.0, all_more P xs x all.1 here)

-- the ends
pub ends_more : (tasks : List Task) (old new : List (End × ℕ)) (i : ℕ) (task : Task) (end : End × ℕ) → i < length tasks → AllZip IsEndOf (take i tasks) old
    → new ≡ old ++ end ∷ [] → IsEndOf task end → task ≡ get_or tasks i task → AllZip IsEndOf (take (i + 1) tasks) new
ends_more tasks old new i task end less before pushed is at =
    subst (AllZip IsEndOf (take (i + 1) tasks)) (sym pushed)
    (subst (λ ts. AllZip IsEndOf ts (old ++ end ∷ [])) (sym (take_more tasks i task less ∙ ap (λ t. take i tasks ++ t ∷ []) (sym at)))
    (all_zipped_more IsEndOf (take i tasks) old task end before is))
