-- Tasks that stand for the configurations of a world.
use Rattle.std.proofs.Common.{◌≡◌, ◌<◌, ◌+◌, ◌-◌, ℕ, zero, suc, List, [], ◌∷◌, map, length, Option, Some, None, option_map, refl, sym, ap, ◌∙◌, subst, arith}
use Rattle.std.specs.Prelude.{slice_get, slice_set}
use Rattle.std.specs.List.{AllByRecursion}
use Rattle.std.proofs.lemmas.List.{map-set}
use Rattle.std.proofs.lemmas.Option.{slice_get-map}
use Rattle.cc_core.proofs.Lookups.{length_map}
use Rattle.cc_device.specs.Devices.{Devices}
use Rattle.cc_device.specs.Events.{Event}
use Rattle.cc_machine.specs.Machines.{held_by}
use Rattle.cc_machine.specs.Standing.{StandsFor, KeepsShapes, with_devices}
use Rattle.cc_machine.proofs.StandingLemmas.{move_held, fits_back, final_back}
use Rattle.cc_runs.specs.Alike.{erased_cell, erased_configuration}
use Rattle.cc_runs.specs.Machine.{Configuration}
use Rattle.cc_runs.specs.Runs.{IsFinal, Moves, closed, move}
use Rattle.cc_runs.specs.SoundRuns.{HasShapesOfCells}
use Rattle.cc_runs.specs.Interleavings.{World, state_of, move_of, IsAtRest}
use Rattle.cc_machine.specs.declared.program.Program.{Program}
use Rattle.cc_machine.specs.Programs.{start_of}
use Rattle.cc_tasks.specs.declared.task.Task.{Task}
use Rattle.cc_tasks.specs.Tasks.{holds, begins, CanGoOn, TakesTurn, HasEnded, HaveEnded}
use Rattle.cc_tasks.proofs.Turns.{AreAtRest}

some_is : {A : Type 0} (a b : A) → Some a ≡ Some b → a ≡ b
some_is a b e = cc

-- what holds of all
pub all_at : {A : Type 0} (P : A → Type 0) (xs : List A) (n : ℕ) (x : A) → AllByRecursion P xs → slice_get xs n ≡ Some x → P x
all_at P [] n x all at = cc
all_at P (y ∷ xs) zero x all at = subst P (some_is y x at) all.0
all_at P (y ∷ xs) (suc n) x all at = all_at P xs n x all.1 at

pub all_along : {A : Type 0} (P Q : A → Type 0) → ((x : A) → P x → Q x) → (xs : List A) → AllByRecursion P xs → AllByRecursion Q xs
all_along P Q along [] all = tt
all_along P Q along (x ∷ xs) all = (along x all.0, all_along P Q along xs all.1)

all_set : {A : Type 0} (P Q : A → Type 0) → ((x : A) → P x → Q x) → (xs : List A) (n : ℕ) (y : A) → Q y → AllByRecursion P xs → AllByRecursion Q (slice_set xs n y)
all_set P Q along [] n y new all = tt
all_set P Q along (x ∷ xs) zero y new all = (new, all_along P Q along xs all.1)
all_set P Q along (x ∷ xs) (suc n) y new all = (along x all.0, all_set P Q along xs n y new all.1)

abbrev pub held : Task → Configuration
held task = held_by task.machine

abbrev pub StandForAll : List Task → List Configuration → Type 0
StandForAll tasks configurations = map erased_configuration configurations ≡ map held tasks

abbrev pub world_now : List Configuration → Devices → World
world_now configurations devices = record { tasks = configurations; devices = devices }

-- a configuration that is stood for
some_erased : (o : Option Configuration) (h : Configuration) → option_map erased_configuration o ≡ Some h
    → (c : Configuration) × (o ≡ Some c) × (erased_configuration c ≡ h)
some_erased None h is = cc
some_erased (Some c) h is = (c, refl, some_is (erased_configuration c) h is)

none_erased : (o : Option Configuration) → option_map erased_configuration o ≡ None → o ≡ None
none_erased None is = refl
none_erased (Some c) is = cc

module _ (tasks : List Task) (cs : List Configuration) (all : StandForAll tasks cs) where
  erased_at : (n : ℕ) → option_map erased_configuration (slice_get cs n) ≡ option_map held (slice_get tasks n)
  erased_at n = sym (slice_get-map erased_configuration cs n) ∙ ap (λ xs. slice_get xs n) all ∙ slice_get-map held tasks n

  pub stood_for : (n : ℕ) (task : Task) → slice_get tasks n ≡ Some task → (c : Configuration) × (slice_get cs n ≡ Some c) × StandsFor (held task) c
  stood_for n task at = some_erased (slice_get cs n) (held task) (erased_at n ∙ ap (option_map held) at)

  -- what has ended is at rest
  module _ (devices : Devices) where
    at_rest : (n : ℕ) (o : Option Task) → slice_get tasks n ≡ o → HasEnded o → IsAtRest (move_of (world_now cs devices) n)
    at_rest n None at ended =
        subst IsAtRest (sym (ap (option_map (λ c. move (state_of devices c))) (none_erased (slice_get cs n) (erased_at n ∙ ap (option_map held) at)))) tt
    at_rest n (Some task) at final =
        let found = stood_for n task at in
        let over : move (with_devices found.0 devices) ≡ IsFinal =
        final_back (move (with_devices found.0 devices)) (sym (move_held (held task) found.0 found.2 devices) ∙ ap (closed devices) final) in
        subst IsAtRest (sym (ap (option_map (λ c. move (state_of devices c))) found.1 ∙ ap (λ m. Some m) over)) tt

    pub all_at_rest : (numbers : List ℕ) → HaveEnded tasks numbers → AreAtRest (world_now cs devices) numbers
    all_at_rest [] ended = tt
    all_at_rest (n ∷ numbers) ended = (at_rest n (slice_get tasks n) refl ended.0, all_at_rest numbers ended.1)

  -- a turn is a move of what is stood for
  pub turn_moves : (n : ℕ) (devices devices' : Devices) (event : Option Event) (tasks' : List Task) → TakesTurn tasks n devices event tasks' devices'
      → (next : Configuration) × (move_of (world_now cs devices) n ≡ Some (Moves event (with_devices next devices'))) × StandForAll tasks' (slice_set cs n next)
  turn_moves n devices devices' event tasks' turn =
      let found = stood_for n turn.before turn.there in
      let moved = turn.step.steps.moves found.0 found.2 in (
        moved.0,
        ap (option_map (λ c. move (state_of devices c))) found.1 ∙ ap (λ m. Some m) moved.1,
        map-set erased_configuration cs n moved.0 ∙ (λ i. slice_set (all i) n (moved.2 i)) ∙ sym (map-set held tasks n turn.after) ∙ sym (ap (map held) turn.others),
      )

-- how far tasks can go on
goes_less : (devices devices' : Devices) (left : ℕ) → KeepsShapes devices devices' → 0 < left → (task : Task) → CanGoOn devices left task → CanGoOn devices' (left - 1) task
goes_less devices devices' left shapes some task can = record {
  fits = λ p n b at. shapes n ∙ can.fits p n b at;
  cells = omega (arith, can.cells);
  steps = omega (arith, can.steps);
}

pub all_go_on : (devices devices' : Devices) (left n : ℕ) (event : Option Event) (tasks tasks' : List Task) → KeepsShapes devices devices' → 0 < left
    → TakesTurn tasks n devices event tasks' devices' → AllByRecursion (CanGoOn devices left) tasks → AllByRecursion (CanGoOn devices' (left - 1)) tasks'
all_go_on devices devices' left n event tasks tasks' shapes some turn all =
    let before = all_at (CanGoOn devices left) tasks n turn.before all turn.there in
    subst (AllByRecursion (CanGoOn devices' (left - 1))) (sym turn.others)
    (all_set (CanGoOn devices left) (CanGoOn devices' (left - 1)) (goes_less devices devices' left shapes some) tasks n turn.after
    (record {
      fits = turn.step.fits;
      cells = omega (arith, before.cells, turn.step.cells);
      steps = omega (arith, before.steps, turn.step.counted);
    })
    all)

pub all_go_one : (devices : Devices) (left : ℕ) (tasks : List Task) → 0 < left → AllByRecursion (CanGoOn devices left) tasks → AllByRecursion (CanGoOn devices 1) tasks
all_go_one devices left tasks some =
    all_along (CanGoOn devices left) (CanGoOn devices 1)
    (λ task can. record { fits = can.fits; cells = omega (arith, can.cells); steps = omega (arith, can.steps) }) tasks

-- programs at their starts
first_is : {A : Type 0} (x y : A) (xs ys : List A) → x ∷ xs ≡ y ∷ ys → (x ≡ y) × (xs ≡ ys)
first_is x y xs ys e = (cc, cc)

can_begin : (devices : Devices) (fuel : ℕ) (task : Task) (program : Program) → holds task ≡ begins program → length (start_of program).store + fuel < 4294967296 → fuel < 4294967296
    → HasShapesOfCells (start_of program).store devices → CanGoOn devices fuel task
can_begin devices fuel task program is cells steps fits =
    let held_is : erased_configuration (start_of program) ≡ held task = sym (ap (λ h. h.0) is) in
    let none : task.steps ≡ 0 = ap (λ h. h.1) is in
    let many : length (held task).store ≡ length (start_of program).store = sym (ap (λ h. length h.store) held_is) ∙ length_map erased_cell (start_of program).store in
    record {
      fits = fits_back (held task) (start_of program) held_is devices fits;
      cells = omega (arith, many, cells);
      steps = omega (arith, none, steps);
    }

pub all_begin : (devices : Devices) (fuel : ℕ) (tasks : List Task) (programs : List Program) → map holds tasks ≡ map begins programs
    → AllByRecursion (λ program. length (start_of program).store + fuel < 4294967296) programs → fuel < 4294967296
    → AllByRecursion (λ program. HasShapesOfCells (start_of program).store devices) programs → AllByRecursion (CanGoOn devices fuel) tasks
all_begin devices fuel [] programs is cells steps fits = tt
all_begin devices fuel (task ∷ tasks) [] is cells steps fits = cc
all_begin devices fuel (task ∷ tasks) (program ∷ programs) is cells steps fits =
    let parts = first_is (holds task) (begins program) (map holds tasks) (map begins programs) is in
    (can_begin devices fuel task program parts.0 cells.0 steps fits.0, all_begin devices fuel tasks programs parts.1 cells.1 steps fits.1)

pub stand_at_start : (tasks : List Task) (programs : List Program) → map holds tasks ≡ map begins programs → StandForAll tasks (map start_of programs)
stand_at_start [] [] is = refl
stand_at_start [] (program ∷ programs) is = cc
stand_at_start (task ∷ tasks) [] is = cc
stand_at_start (task ∷ tasks) (program ∷ programs) is =
    let parts = first_is (holds task) (begins program) (map holds tasks) (map begins programs) is in
    let first = sym (ap (λ h. h.0) parts.0) in
    let others = stand_at_start tasks programs parts.1 in
    λ i. first i ∷ others i

pub none_taken : (tasks : List Task) (programs : List Program) → map holds tasks ≡ map begins programs → (n : ℕ) (task : Task) → slice_get tasks n ≡ Some task → 0 ≡ task.steps
none_taken [] programs is n task at = cc
none_taken (first ∷ tasks) [] is n task at = cc
none_taken (first ∷ tasks) (program ∷ programs) is zero task at =
    sym (ap (λ h. h.1) (first_is (holds first) (begins program) (map holds tasks) (map begins programs) is).0) ∙ ap (λ (t : Task). t.steps) (some_is first task at)
none_taken (first ∷ tasks) (program ∷ programs) is (suc n) task at =
    none_taken tasks programs (first_is (holds first) (begins program) (map holds tasks) (map begins programs) is).1 n task at
