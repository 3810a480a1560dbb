-- A run that has taken some turns, and its report at its end.
use Rattle.std.proofs.Common.{◌≡◌, ◌<◌, ◌+◌, ◌-◌, ℕ, suc, List, [], ◌∷◌, ◌++◌, map, take, drop, Option, Some, inl, inr, refl, sym, ap, ◌∙◌, arith}
use Rattle.std.specs.Prelude.{slice_get, slice_set, slice_index}
use Rattle.std.specs.List.{AllByRecursion, AllZip}
use Rattle.std.proofs.lemmas.Bool.{cases_eq}
use Rattle.std.proofs.lemmas.List.{append-nil}
use Rattle.std.proofs.lemmas.Option.{slice_get-get_or}
use Rattle.cc_device.specs.Devices.{Devices}
use Rattle.cc_device.specs.Endings.{End, Done, OutOfFuel}
use Rattle.cc_device.specs.Events.{Event}
use Rattle.cc_device.specs.DeviceViews.{end_of}
use Rattle.cc_device.specs.declared.ends.End.{End as DeclaredEnd}
use Rattle.cc_device.proofs.Operations.{set_at, set_elsewhere}
use Rattle.cc_machine.specs.Reports.{HasEnd}
use Rattle.cc_machine.specs.Standing.{StandsFor, with_devices}
use Rattle.cc_machine.proofs.RunLemmas.{run_done, run_out}
use Rattle.cc_runs.specs.Machine.{Configuration}
use Rattle.cc_runs.specs.Runs.{Ends}
use Rattle.cc_runs.specs.SoundRuns.{HasShapesOfCells}
use Rattle.cc_runs.specs.Interleavings.{Turn, Interleaving, interleave, numbered, trace_of, own_steps, ending_in, ends_from, report_of}
use Rattle.cc_runs.proofs.Finality.{final_exactly_where_answered, final_states_are_answered}
use Rattle.cc_machine.specs.declared.program.Program.{Program}
use Rattle.cc_machine.specs.Programs.{start_of}
use Rattle.cc_tasks.specs.declared.task.Task.{Task}
use Rattle.cc_tasks.specs.Reports.{told_end, world_in}
use Rattle.cc_tasks.specs.Tasks.{holds, begins, CanGoOn, TakesTurn, HaveEnded, IsNext, IsEndOf}
use Rattle.cc_tasks.proofs.Standing.{held, StandForAll, world_now, all_at_rest, turn_moves, stand_at_start, none_taken}
use Rattle.cc_tasks.proofs.Turns.{at_its_end, one_turn, turns_first, turn_between, trace-push, own_step_more, no_step_more}

-- Some turns of the whole run are taken, and these tasks, in this order, with these devices, have so many left to come.
pub record StandsAt (whole : Interleaving) (left : ℕ) (order : List ℕ) (tasks : List Task) (devices : Devices) (trace : List (ℕ × Event)) : Type 0 where
  pub now : List Configuration
  pub turns : List Turn
  pub stand : StandForAll tasks now
  pub onward : whole ≡ turns_first turns (interleave left order (world_now now devices))
  pub told : trace_of turns ≡ trace
  pub counted : (i : ℕ) (task : Task) → slice_get tasks i ≡ Some task → own_steps i turns ≡ task.steps

pub stands_at_start : (fuel : ℕ) (schedule order : List ℕ) (programs : List Program) (devices : Devices) (tasks : List Task) (trace : List (ℕ × Event))
    → map holds tasks ≡ map begins programs → order ≡ schedule → trace ≡ []
    → StandsAt (interleave fuel schedule (world_in programs devices)) fuel order tasks devices trace
stands_at_start fuel schedule order programs devices tasks trace is copied none = record {
  now = map start_of programs;
  turns = [];
  stand = stand_at_start tasks programs is;
  onward = ap (λ o. interleave fuel o (world_in programs devices)) (sym copied);
  told = sym none;
  counted = none_taken tasks programs is;
}

some_is : (a b : Task) → Some a ≡ Some b → a ≡ b
some_is a b e = cc

-- one turn more
pub stands_after_turn : (whole : Interleaving) (left : ℕ) (order order' : List ℕ) (tasks tasks' : List Task) (devices devices' : Devices) (trace trace' : List (ℕ × Event))
    (place number : ℕ) (event : Option Event) → StandsAt whole left order tasks devices trace → 0 < left → IsNext tasks order place → slice_index order place ≡ number
    → TakesTurn tasks number devices event tasks' devices' → order' ≡ drop (place + 1) order ++ take (place + 1) order → trace' ≡ trace ++ numbered number event []
    → StandsAt whole (left - 1) order' tasks' devices' trace'
stands_after_turn whole left order order' tasks tasks' devices devices' trace trace' place number event stands some next there turn turned told =
    let moved = turn_moves tasks stands.now stands.stand number devices devices' event tasks' turn in
    let one : left ≡ suc (left - 1) = omega arith in
    let more : place + 1 ≡ suc place = omega arith in
    let at : slice_get order place ≡ Some number = slice_get-get_or order place 0 next.within ∙ ap (λ n. Some n) there in
    let rests = all_at_rest tasks stands.now stands.stand devices (take place order) next.passed in
    record {
      now = slice_set stands.now number moved.0;
      turns = stands.turns ++ record { task = number; event = event } ∷ [];
      stand = moved.2;
      onward =
          stands.onward
          ∙ ap (λ n. turns_first stands.turns (interleave n order (world_now stands.now devices))) one
          ∙ ap (turns_first stands.turns) (one_turn (left - 1) order (world_now stands.now devices) place number event (with_devices moved.0 devices') rests at moved.1)
          ∙ turn_between stands.turns (record { task = number; event = event }) _
          ∙ ap (λ o. turns_first (stands.turns ++ record { task = number; event = event } ∷ []) (interleave (left - 1) o (world_now (slice_set stands.now number moved.0) devices')))
          (sym (turned ∙ ap (λ n. drop n order ++ take n order) more));
      told = trace-push stands.turns number event ∙ ap (λ es. es ++ numbered number event []) stands.told ∙ sym told;
      counted = λ i task is.
          elim (cases_eq number i) as (λ _. own_steps i (stands.turns ++ record { task = number; event = event } ∷ []) ≡ task.steps) [
            | inl same ↦
                let before = stands.counted i turn.before (ap (slice_get tasks) (sym same) ∙ turn.there) in
                let after : turn.after ≡ task =
                some_is turn.after task (sym (set_at tasks number turn.before turn.after turn.there) ∙ ap (slice_get (slice_set tasks number turn.after)) same ∙ ap (λ ts. slice_get ts i) (sym turn.others) ∙ is) in
                own_step_more i stands.turns number event same ∙ ap (λ n. n + 1) before ∙ sym turn.step.counted ∙ ap (λ (t : Task). t.steps) after
            | inr other ↦
                no_step_more i stands.turns number event other
                ∙ stands.counted i task (sym (set_elsewhere tasks number i turn.after (λ same. other (sym same))) ∙ ap (λ ts. slice_get ts i) (sym turn.others) ∙ is)
          ];
    }

-- the end of a task is told as it is
ending_told : (task : Task) (devices : Devices) (c : Configuration) → StandsFor (held task) c → HasShapesOfCells (held task).store devices → (end : End) → HasEnd (held task) end
    → ending_in devices c ≡ Ends end
ending_told task devices c stands fits (Done shows) has = ap (λ r. r.ending) (run_done 0 (held task) devices c shows stands has.0 has.1)
ending_told task devices c stands fits OutOfFuel has =
    ap (λ r. r.ending)
    (run_out (held task) devices c stands fits task.machine.sound
    (λ is. has ((final_exactly_where_answered (held task)).1 ((final_states_are_answered (with_devices (held task) devices)).0 is))))

first_is : {A : Type 0} (x y : A) (xs ys : List A) → x ∷ xs ≡ y ∷ ys → (x ≡ y) × (xs ≡ ys)
first_is x y xs ys e = (cc, cc)

ends_told : (first left : ℕ) (turns : List Turn) (devices : Devices) (tasks : List Task) (cs : List Configuration) (ends : List (DeclaredEnd × ℕ))
    → StandForAll tasks cs → AllByRecursion (CanGoOn devices left) tasks → AllZip IsEndOf tasks ends
    → ((i n : ℕ) (task : Task) → first + i ≡ n → slice_get tasks i ≡ Some task → own_steps n turns ≡ task.steps)
    → ends_from first turns devices cs ≡ map told_end ends
ends_told first left turns devices [] [] [] all can are counted = refl
ends_told first left turns devices [] [] (end ∷ ends) all can are counted = absurd are
ends_told first left turns devices [] (c ∷ cs) ends all can are counted = cc
ends_told first left turns devices (task ∷ tasks) [] ends all can are counted = cc
ends_told first left turns devices (task ∷ tasks) (c ∷ cs) [] all can are counted = absurd are
ends_told first left turns devices (task ∷ tasks) (c ∷ cs) (end ∷ ends) all can are counted =
    let parts = first_is _ _ _ _ all in
    let shown = ending_told task devices c parts.0 can.0.fits (end_of end.0) are.0.0 in
    let steps : own_steps first turns ≡ end.1 = counted 0 first task (omega arith) refl ∙ sym are.0.1 in
    let others =
    ends_told (suc first) left turns devices tasks cs ends parts.1 can.1 are.1
    (λ i n t is at. counted (suc i) n t (let more : first + suc i ≡ n = omega (arith, is) in more) at) in
    λ i. (shown i, steps i) ∷ others i

module _ (whole : Interleaving) (left : ℕ) (order : List ℕ) (tasks : List Task) (devices : Devices) (trace : List (ℕ × Event))
    (stands : StandsAt whole left order tasks devices trace) (over : 0 < left → HaveEnded tasks order) where
  at_end : whole ≡ record { turns = stands.turns; last = world_now stands.now devices }
  at_end =
      stands.onward
      ∙ ap (turns_first stands.turns)
      (at_its_end left order (world_now stands.now devices) (λ some. all_at_rest tasks stands.now stands.stand devices order (over some)))
      ∙ ap (λ ts. record { turns = ts; last = world_now stands.now devices }) (append-nil stands.turns)

  pub last_devices : devices ≡ whole.last.devices
  last_devices = sym (ap (λ (r : Interleaving). r.last.devices) at_end)

  pub report_told : (ends : List (DeclaredEnd × ℕ)) → AllByRecursion (CanGoOn devices left) tasks → AllZip IsEndOf tasks ends
      → record { trace = trace; ends = map told_end ends } ≡ report_of whole
  report_told ends can are =
      let told = ends_told 0 left stands.turns devices tasks stands.now ends stands.stand can are
      (λ i n t is at. let same : i ≡ n = omega (arith, is) in ap (λ k. own_steps k stands.turns) (sym same) ∙ stands.counted i t at) in
      sym (ap report_of at_end ∙ (λ i. record { trace = stands.told i; ends = told i }))
