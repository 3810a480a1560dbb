-- The programs of entries as tasks.
use Rattle.std.proofs.Common.{◌≡◌, ℕ, zero, suc, ◌+◌, arith, List, [], ◌∷◌, map, Some, refl, sym, ap, ◌∙◌, subst}
use Rattle.std.specs.Prelude.{slice_get}
use Rattle.std.specs.Option.{option_map}
use Rattle.cc_base.specs.declared.literal.Base.{Base}
use Rattle.cc_core.specs.Typing.{base_operated}
use Rattle.cc_core.specs.Stores.{DeviceCell}
use Rattle.cc_core.specs.Programs.{Entry, IsEntry}
use Rattle.cc_device.specs.Devices.{Devices}
use Rattle.cc_device.specs.Events.{Exited}
use Rattle.cc_runs.specs.Machine.{Configuration}
use Rattle.cc_runs.specs.Reach.{SetReaches, captured_set}
use Rattle.cc_runs.specs.Runs.{Moves, run}
use Rattle.cc_runs.specs.SafeRuns.{scopes_of, IsListed, HaveShapes}
use Rattle.cc_runs.specs.SoundRuns.{IsSoundState}
use Rattle.cc_runs.specs.Links.{program_start}
use Rattle.cc_runs.specs.Interleavings.{World, world_of, state_of, Turn, Interleaving, interleave, own_steps}
use Rattle.cc_runs.specs.Interleavings.{ending_in, ends_from, interleaved_run, Takes}
use Rattle.cc_runs.specs.InterleavingLaws.{AreSound, ReachesDevice}
use Rattle.cc_runs.specs.TaskLaws.{AreEntries, EndsAreOfTheirTasks, EntriesRunInterleaved}
use Rattle.cc_runs.specs.SafeTasks.{IsSafeTask, TaskRunsSafely, HasItsDevicesAlone, TaskRunsAsAlone}
use Rattle.cc_runs.proofs.RunTheorems.{runs_never_stop}
use Rattle.cc_runs.proofs.LinkedPrograms.{program_starts}
use Rattle.cc_runs.proofs.SafeRuns.{start_reaches, exit_scope}
use Rattle.cc_runs.proofs.LocalSteps.{kept_from}
use Rattle.cc_runs.proofs.InterleavedTasks.{not_stuck, own_move, interleavings_are_turns, schedules_go_on, tasks_stay_sound, tasks_keep_their_promises, devices_have_histories}
use Rattle.cc_runs.proofs.TasksApart.{tasks_apart_run_as_alone}

-- Reports.
ends_from_first : (turns : List Turn) (devices : Devices) (tasks : List Configuration) (first task number : ℕ) → first + task ≡ number
    → slice_get (ends_from first turns devices tasks) task ≡ option_map (λ c. (ending_in devices c, own_steps number turns)) (slice_get tasks task)
ends_from_first turns devices [] first task number is = refl
ends_from_first turns devices (c ∷ tasks) first zero number is = ap (λ n. Some (ending_in devices c, own_steps n turns)) (let same : first ≡ number = omega arith in same)
ends_from_first turns devices (c ∷ tasks) first (suc task) number is = ends_from_first turns devices tasks (suc first) task number (omega arith)

pub ends_are_of_their_tasks : EndsAreOfTheirTasks
ends_are_of_their_tasks turns devices tasks task = ends_from_first turns devices tasks 0 task task (omega arith)

-- The task of an entry.
some_is : {A : Type 0} (a b : A) → Some a ≡ Some b → a ≡ b
some_is a b e = cc

entry_at : (entries : List Entry) (devices : Devices) → AreEntries entries devices → (i : ℕ) (entry : Entry) → slice_get entries i ≡ Some entry → IsEntry entry × HaveShapes devices entry.devices
entry_at [] devices all i entry e = cc
entry_at (x ∷ entries) devices all zero entry e = subst (λ y. IsEntry y × HaveShapes devices y.devices) (some_is x entry e) all.0
entry_at (x ∷ entries) devices all (suc i) entry e = entry_at entries devices all.1 i entry e

task_of : (entries : List Entry) (i : ℕ) (c : Configuration) → slice_get (map program_start entries) i ≡ Some c → (entry : Entry) × (slice_get entries i ≡ Some entry) × (program_start entry ≡ c)
task_of [] i c e = cc
task_of (x ∷ entries) zero c e = (x, refl, some_is (program_start x) c e)
task_of (x ∷ entries) (suc i) c e = task_of entries i c e

start_there : (entries : List Entry) (i : ℕ) (entry : Entry) → slice_get entries i ≡ Some entry → slice_get (map program_start entries) i ≡ Some (program_start entry)
start_there [] i entry e = cc
start_there (x ∷ entries) zero entry e = ap (λ y. Some (program_start y)) (some_is x entry e)
start_there (x ∷ entries) (suc i) entry e = start_there entries i entry e

-- the start of an entry's program is sound and reaches its authority alone
start_sound : (entry : Entry) → IsEntry entry → (devices : Devices) → HaveShapes devices entry.devices → IsSoundState (state_of devices (program_start entry))
start_sound entry is devices shapes = (program_starts entry is devices shapes).sound

start_permits : (entry : Entry) → IsEntry entry → (devices : Devices) → HaveShapes devices entry.devices → (n : ℕ) (b : Base)
    → SetReaches (program_start entry).store (captured_set (program_start entry)) (DeviceCell n b) → IsListed n entry.authority
start_permits entry is devices shapes n b reached =
    subst (IsListed n) (sym is.authority) (start_reaches _ _ _ _ _ _ _ _ (program_starts entry is devices shapes) n b reached)

entries_sound : (entries : List Entry) (devices : Devices) → AreEntries entries devices → AreSound (world_of entries devices)
entries_sound entries devices all i c there =
    let at = task_of entries i c there in
    let has = entry_at entries devices all i at.0 at.1 in
    subst (λ x. IsSoundState (state_of devices x)) at.2 (start_sound at.0 has.0 devices has.1)

-- Moments of tasks.
safe_task : (permitted : List ℕ) (i : ℕ) (w : World) → AreSound w → (c : Configuration) → slice_get w.tasks i ≡ Some c
    → ((n : ℕ) (b : Base) → SetReaches c.store (captured_set c) (DeviceCell n b) → IsListed n permitted) → IsSafeTask permitted i w c
safe_task permitted i w sound c there within = record {
  not_stuck = not_stuck w sound i;
  reached = λ later turns takes n op l among. (tasks_keep_their_promises w later turns sound takes i c there).operated n op l among;
  permits = λ later turns takes n op l among. within n (base_operated op) ((tasks_keep_their_promises w later turns sound takes i c there).operated n op l among);
  exits = λ label next is.
      exit_scope (kept_from (state_of w.devices c) (sound i c there) (Some (Exited label)) next (own_move w i i c (Moves (Some (Exited label)) next) refl there is)).scopes label refl;
}

module _ (entries : List Entry) (devices : Devices) (all : AreEntries entries devices) (schedule : List ℕ) (fuel : ℕ) where
  abbrev whole : Interleaving
  whole = interleave fuel schedule (world_of entries devices)

  takes_all : Takes (world_of entries devices) whole.turns whole.last
  takes_all = interleavings_are_turns fuel schedule (world_of entries devices)

  sound_start : AreSound (world_of entries devices)
  sound_start = entries_sound entries devices all

  task_runs_safely : (i : ℕ) (entry : Entry) → slice_get entries i ≡ Some entry → TaskRunsSafely entries devices schedule fuel i entry
  task_runs_safely i entry at =
      let has = entry_at entries devices all i entry at in
      let there = start_there entries i entry at in
      let within = start_permits entry has.0 devices has.1 in
      let kept = tasks_keep_their_promises (world_of entries devices) whole.last whole.turns sound_start takes_all i (program_start entry) there in
      let sound_last = tasks_stay_sound (world_of entries devices) whole.last whole.turns sound_start takes_all in
      record {
        ending = ending_in whole.last.devices kept.after;
        steps = own_steps i whole.turns;
        told = ends_are_of_their_tasks whole.turns whole.last.devices whole.last.tasks i ∙ ap (option_map (λ c. (ending_in whole.last.devices c, own_steps i whole.turns))) kept.there;
        not_stopped = runs_never_stop 0 (state_of whole.last.devices kept.after) (sound_last i kept.after kept.there);
        moments = λ now turns c takes at_now.
            let before = tasks_keep_their_promises (world_of entries devices) now turns sound_start takes i (program_start entry) there in
            let same : before.after ≡ c = some_is before.after c (sym before.there ∙ at_now) in
            safe_task entry.authority i now (tasks_stay_sound (world_of entries devices) now turns sound_start takes) c at_now
            (λ n b reached. within n b (before.reach n b (subst (λ x. SetReaches x.store (captured_set x) (DeviceCell n b)) (sym same) reached)));
        authority = λ n op l among. within n (base_operated op) (kept.operated n op l among);
        well_scoped = (scopes_of kept.after.stack, kept.scopes);
      }

  apart_by_authority : (i : ℕ) (entry : Entry) → slice_get entries i ≡ Some entry → HasItsDevicesAlone entries i entry → TaskRunsAsAlone (interleaved_run fuel schedule entries devices) devices i entry
  apart_by_authority i entry at alone =
      let has = entry_at entries devices all i entry at in
      let there = start_there entries i entry at in
      let runs = tasks_apart_run_as_alone (world_of entries devices) whole.last whole.turns sound_start takes_all i (program_start entry) there
      (λ j c other there' n reaches reaches'. apart j c other there' n reaches reaches') in
      let kept = tasks_keep_their_promises (world_of entries devices) whole.last whole.turns sound_start takes_all i (program_start entry) there in
      let ends : (run (own_steps i whole.turns) (state_of devices (program_start entry))).ending ≡ ending_in whole.last.devices kept.after =
      some_is _ _ (runs.ending ∙ ap (option_map (ending_in whole.last.devices)) kept.there) in
      record {
        steps = own_steps i whole.turns;
        events = runs.events;
        told =
            ends_are_of_their_tasks whole.turns whole.last.devices whole.last.tasks i
            ∙ ap (option_map (λ c. (ending_in whole.last.devices c, own_steps i whole.turns))) kept.there
            ∙ ap (λ e. Some (e, own_steps i whole.turns)) (sym ends);
        all_steps = runs.steps;
      }
    where
      apart : (j : ℕ) (c : Configuration) → (j ≡ i → ⊥) → slice_get (map program_start entries) j ≡ Some c → (n : ℕ) → ReachesDevice (program_start entry) n → ReachesDevice c n → ⊥
      apart j c other there n reaches reaches' =
          let has = entry_at entries devices all i entry at in
          let at_j = task_of entries j c there in
          let has_j = entry_at entries devices all j at_j.0 at_j.1 in
          let reaches_j : ReachesDevice (program_start at_j.0) n = subst (λ x. ReachesDevice x n) (sym at_j.2) reaches' in
          alone j at_j.0 other at_j.1 n (start_permits entry has.0 devices has.1 n reaches.0 reaches.1) (start_permits at_j.0 has_j.0 devices has_j.1 n reaches_j.0 reaches_j.1)

pub entries_run_interleaved : EntriesRunInterleaved
entries_run_interleaved entries devices all schedule fuel = record {
  goes_on = schedules_go_on fuel schedule (world_of entries devices) (sound_start entries devices all schedule fuel);
  tasks = task_runs_safely entries devices all schedule fuel;
  histories = λ n d there.
      devices_have_histories (world_of entries devices) _ _ (sound_start entries devices all schedule fuel) (takes_all entries devices all schedule fuel) n d there;
  alone = apart_by_authority entries devices all schedule fuel;
}
