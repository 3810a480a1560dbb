-- Programs of entries that run together, by turns.
use Rattle.std.proofs.Common.{◌≡◌, ℕ, zero, suc, List, [], ◌∷◌, map, Some, refl, sym, ap, ◌∙◌, subst}
use Rattle.std.specs.Prelude.{slice_get}
use Rattle.cc_base.specs.declared.literal.Base.{Base}
use Rattle.cc_core.specs.Typing.{base_operated}
use Rattle.cc_core.specs.Stores.{DeviceCell}
use Rattle.cc_core.specs.Programs.{Entry, IsEntry}
use Rattle.cc_device.specs.Devices.{Devices}
use Rattle.cc_device.specs.Events.{Event, Exited}
use Rattle.cc_runs.specs.Machine.{Configuration}
use Rattle.cc_runs.specs.Reach.{SetReaches, captured_set}
use Rattle.cc_runs.specs.Runs.{State, Moves, LeadsIn, none, more, run, with_event}
use Rattle.cc_runs.specs.SafeRuns.{IsListed, HaveShapes}
use Rattle.cc_runs.specs.SoundRuns.{IsSoundState}
use Rattle.cc_runs.specs.Links.{program_start}
use Rattle.cc_runs.specs.Interleavings.{World, world_of, state_of, Turn, trace_of, own_events, own_steps, Takes, no_turn, then_turn}
use Rattle.cc_runs.specs.InterleavingLaws.{AreSound, ReachesDevice}
use Rattle.cc_runs.specs.TaskLaws.{AreEntries}
use Rattle.cc_runs.specs.SafeTasks.{HasItsDevicesAlone}
use Rattle.cc_runs.proofs.RunTheorems.{runs_are_steps}
use Rattle.cc_runs.proofs.LinkedPrograms.{program_starts}
use Rattle.cc_runs.proofs.SafeRuns.{start_reaches, exit_scope}
use Rattle.cc_runs.proofs.LocalSteps.{kept_from}
use Rattle.cc_runs.proofs.InterleavedTasks.{not_stuck, own_move, own_turn_events, tasks_stay_sound, tasks_keep_their_promises, devices_have_histories}
use Rattle.cc_runs.proofs.TasksApart.{tasks_apart_run_as_alone}
use Rattle.cc_sound_laws.specs.RunningTogether.{GoesWell, ProgramsRunTogether}
use Rattle.cc_sound_laws.specs.SingleRuns.{alone_at, SingleRunsAreTurns}

some_is : {A : Type 0} (a b : A) → Some a ≡ Some b → a ≡ b
some_is a b e = cc

-- ---- one task alone
-- turns of one task alone that lead from a state to another, with these events
abbrev AloneTo : State → List Event → State → Type 0
AloneTo state events last =
    (turns : List Turn) × Takes (alone_at state) turns (alone_at last) × (own_events 0 (trace_of turns) ≡ events)

alone_steps : {steps : ℕ} {state last : State} {events : List Event} → LeadsIn steps state events last
    → AloneTo state events last
alone_steps none = ([], no_turn, refl)
alone_steps (more {state = state} {next = next} {last = last} {event = event} {events = events} moved rest) =
    let later = alone_steps rest in (
      record { task = 0; event = event } ∷ later.0,
      then_turn (ap (λ m. Some m) moved) later.1,
      own_turn_events 0 0 event later.0 refl ∙ ap (with_event event) later.2,
    )

pub single_runs_are_turns : SingleRunsAreTurns
single_runs_are_turns entry devices events last leads = alone_steps leads.1

-- ---- the tasks of entries
entry_at : (entries : List Entry) (devices : Devices) → AreEntries entries devices → (i : ℕ) (entry : Entry)
    → slice_get entries i ≡ Some entry → IsEntry entry × HaveShapes devices entry.devices
entry_at [] devices all i entry e = cc
entry_at (x ∷ entries) devices all zero entry e =
    subst (λ y. IsEntry y × HaveShapes devices y.devices) (some_is x entry e) all.0
entry_at (x ∷ entries) devices all (suc i) entry e = entry_at entries devices all.1 i entry e

task_of : (entries : List Entry) (i : ℕ) (c : Configuration) → slice_get (map program_start entries) i ≡ Some c
    → (entry : Entry) × (slice_get entries i ≡ Some entry) × (program_start entry ≡ c)
task_of [] i c e = cc
task_of (x ∷ entries) zero c e = (x, refl, some_is (program_start x) c e)
task_of (x ∷ entries) (suc i) c e = task_of entries i c e

start_there : (entries : List Entry) (i : ℕ) (entry : Entry) → slice_get entries i ≡ Some entry
    → slice_get (map program_start entries) i ≡ Some (program_start entry)
start_there [] i entry e = cc
start_there (x ∷ entries) zero entry e = ap (λ y. Some (program_start y)) (some_is x entry e)
start_there (x ∷ entries) (suc i) entry e = start_there entries i entry e

-- the start of an entry's program is sound and reaches its authority alone
start_sound : (entry : Entry) → IsEntry entry → (devices : Devices) → HaveShapes devices entry.devices
    → IsSoundState (state_of devices (program_start entry))
start_sound entry is devices shapes = (program_starts entry is devices shapes).sound

start_permits : (entry : Entry) → IsEntry entry → (devices : Devices) → HaveShapes devices entry.devices
    → (n : ℕ) (b : Base) → SetReaches (program_start entry).store (captured_set (program_start entry)) (DeviceCell n b)
    → IsListed n entry.authority
start_permits entry is devices shapes n b reached =
    subst (IsListed n) (sym is.authority) (start_reaches _ _ _ _ _ _ _ _ (program_starts entry is devices shapes) n b reached)

module _ (entries : List Entry) (devices : Devices) (all : AreEntries entries devices) where
  sound_start : AreSound (world_of entries devices)
  sound_start i c there =
      let at = task_of entries i c there in
      let has = entry_at entries devices all i at.0 at.1 in
      subst (λ x. IsSoundState (state_of devices x)) at.2 (start_sound at.0 has.0 devices has.1)

  -- tasks whose entries share no device reach no common one
  apart : (i : ℕ) (entry : Entry) → slice_get entries i ≡ Some entry → HasItsDevicesAlone entries i entry
      → (j : ℕ) (c : Configuration) → (j ≡ i → ⊥) → slice_get (map program_start entries) j ≡ Some c
      → (n : ℕ) → ReachesDevice (program_start entry) n → ReachesDevice c n → ⊥
  apart i entry at alone j c other there n reaches reaches' =
      let has = entry_at entries devices all i entry at in
      let at_j = task_of entries j c there in
      let has_j = entry_at entries devices all j at_j.0 at_j.1 in
      let reaches_j : ReachesDevice (program_start at_j.0) n = subst (λ x. ReachesDevice x n) (sym at_j.2) reaches' in
      alone j at_j.0 other at_j.1 n (start_permits entry has.0 devices has.1 n reaches.0 reaches.1)
      (start_permits at_j.0 has_j.0 devices has_j.1 n reaches_j.0 reaches_j.1)

  goes_well : (turns : List Turn) (now : World) → Takes (world_of entries devices) turns now → (i : ℕ) (entry : Entry)
      → slice_get entries i ≡ Some entry → GoesWell entries devices i entry turns now
  goes_well turns now takes i entry at =
      let has = entry_at entries devices all i entry at in
      let there = start_there entries i entry at in
      let within = start_permits entry has.0 devices has.1 in
      let sound_now = tasks_stay_sound (world_of entries devices) now turns sound_start takes in
      let kept = tasks_keep_their_promises (world_of entries devices) now turns sound_start takes i (program_start entry) there in
      record {
        configuration = kept.after;
        there = kept.there;
        not_stuck = not_stuck now sound_now i;
        operates = λ later further on n op l among.
            let reached = (tasks_keep_their_promises now later further sound_now on i kept.after kept.there).operated n op l among in
            (reached, within n (base_operated op) (kept.reach n (base_operated op) reached));
        exits = λ label next is.
            exit_scope (kept_from (state_of now.devices kept.after) (sound_now i kept.after kept.there) (Some (Exited label)) next
            (own_move now i i kept.after (Moves (Some (Exited label)) next) refl kept.there is)).scopes label refl;
        scoped = kept.scopes;
        alone = λ alone.
            let runs = tasks_apart_run_as_alone (world_of entries devices) now turns sound_start takes i (program_start entry) there
            (λ j c other there' n reaches reaches'. apart i entry at alone j c other there' n reaches reaches') in
            let its = runs_are_steps (own_steps i turns) (state_of devices (program_start entry)) in
            let own = alone_steps its.1 in (
              alone_at (run (own_steps i turns) (state_of devices (program_start entry))).last,
              own.0,
              own.1,
              own.2 ∙ runs.events,
              runs.configuration ∙ kept.there,
            );
      }

pub programs_run_together : ProgramsRunTogether
programs_run_together entries devices all = record {
  tasks = goes_well entries devices all;
  histories = λ turns now takes number device there.
      devices_have_histories (world_of entries devices) now turns (sound_start entries devices all) takes number device there;
}
