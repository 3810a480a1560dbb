-- How many turns an interleaved run has, and how many steps its tasks take together.
use Rattle.std.proofs.Common.{◌≡◌, ◌≤◌, ◌<◌, ◌+◌, ℕ, zero, suc, List, [], ◌∷◌, length, Option, Some, None, inl, inr, refl, sym, ap, ◌∙◌, subst, arith}
use Rattle.std.specs.Prelude.{slice_set}
use Rattle.std.specs.List.{sum_by}
use Rattle.std.proofs.lemmas.Bool.{cases_eq}
use Rattle.std.proofs.lemmas.List.Sums.{sum_by-cons}
use Rattle.cc_core.proofs.Lookups.{slice_get-within}
use Rattle.cc_device.specs.Devices.{Devices}
use Rattle.cc_device.specs.Events.{Event}
use Rattle.cc_runs.specs.Machine.{Configuration}
use Rattle.cc_runs.specs.Runs.{State, Move, IsStuck, IsFinal, Moves, Ending}
use Rattle.cc_runs.specs.Interleavings.{World, after_turn, Turn, Chosen, chosen, Interleaving, take_turn, go_on}
use Rattle.cc_runs.specs.Interleavings.{interleave, own_steps, ending_in, ends_from, report_of, Takes, no_turn}
use Rattle.cc_runs.specs.Interleavings.{then_turn}
use Rattle.cc_runs.specs.InterleavingLaws.{all_steps, TurnsAreWithinFuel}
use Rattle.cc_runs.proofs.InterleavedTasks.{mover, own_turn_steps, other_turn_steps, interleavings_are_turns}

-- tasks stay as many
set_length : {A : Type 0} (xs : List A) (i : ℕ) (b : A) → length (slice_set xs i b) ≡ length xs
set_length [] i b = refl
set_length (x ∷ xs) zero b = refl
set_length (x ∷ xs) (suc i) b = ap suc (set_length xs i b)

-- no more turns than fuel
turn_counted : (fuel : ℕ) (rest : List ℕ → World → Interleaving) → ((s : List ℕ) (v : World) → length (rest s v).turns ≤ fuel)
    → (w : World) (i : ℕ) (later : List ℕ) (m : Move) → length (take_turn rest w i later m).turns ≤ suc fuel
turn_counted fuel rest all w i later IsStuck = omega arith
turn_counted fuel rest all w i later IsFinal = omega arith
turn_counted fuel rest all w i later (Moves event next) = let fewer = all later (after_turn w i next) in omega arith

choice_counted : (fuel : ℕ) (rest : List ℕ → World → Interleaving) → ((s : List ℕ) (v : World) → length (rest s v).turns ≤ fuel)
    → (w : World) (o : Option Chosen) → length (go_on rest w o).turns ≤ suc fuel
choice_counted fuel rest all w None = omega arith
choice_counted fuel rest all w (Some c) = turn_counted fuel rest all w c.task c.later c.comes

within_fuel : (fuel : ℕ) (schedule : List ℕ) (w : World) → length (interleave fuel schedule w).turns ≤ fuel
within_fuel zero schedule w = omega arith
within_fuel (suc fuel) schedule w = choice_counted fuel (interleave fuel) (within_fuel fuel) w (chosen w schedule)

-- the steps that are told of tasks, from the task of a number on
abbrev told_steps : Ending × ℕ → ℕ
told_steps told = told.1

abbrev steps_from : ℕ → List Turn → Devices → List Configuration → ℕ
steps_from first turns devices tasks = sum_by told_steps (ends_from first turns devices tasks)

first_of_all : (first : ℕ) (ts : List Turn) (d : Devices) (c : Configuration) (cs : List Configuration)
    → steps_from first ts d (c ∷ cs) ≡ own_steps first ts + steps_from (suc first) ts d cs
first_of_all first ts d c cs = sum_by-cons told_steps (ending_in d c, own_steps first ts) (ends_from (suc first) ts d cs)

-- without a turn there is no step
no_steps : (first : ℕ) (d : Devices) (cs : List Configuration) → steps_from first [] d cs ≡ 0
no_steps first d [] = refl
no_steps first d (c ∷ cs) = let here = first_of_all first [] d c cs in let rest = no_steps (suc first) d cs in omega arith

-- a turn of a task before them changes nothing
before_them : (first i : ℕ) (e : Option Event) (ts : List Turn) (d : Devices) (cs : List Configuration) → i < first
    → steps_from first (record { task = i; event = e } ∷ ts) d cs ≡ steps_from first ts d cs
before_them first i e ts d [] less = refl
before_them first i e ts d (c ∷ cs) less =
    let turns : List Turn = record { task = i; event = e } ∷ ts in
    let other : own_steps first turns ≡ own_steps first ts = other_turn_steps first i e ts (λ same. absurd (omega arith)) in
    let rest = before_them (suc first) i e ts d cs (let l : i < suc first = omega arith in l) in
    first_of_all first turns d c cs ∙ (λ j. other j + rest j) ∙ sym (first_of_all first ts d c cs)

-- a turn of one of them is one step more
one_more : (first i : ℕ) (e : Option Event) (ts : List Turn) (d : Devices) (cs : List Configuration) → first ≤ i → i < first + length cs
    → steps_from first (record { task = i; event = e } ∷ ts) d cs ≡ suc (steps_from first ts d cs)
one_more first i e ts d [] low high = absurd (omega arith)
one_more first i e ts d (c ∷ cs) low high =
    let turns : List Turn = record { task = i; event = e } ∷ ts in
    let after = first_of_all first turns d c cs in
    let before = first_of_all first ts d c cs in
    elim (cases_eq i first) as (λ _. steps_from first turns d (c ∷ cs) ≡ suc (steps_from first ts d (c ∷ cs))) [
      | inl same ↦
          let own = own_turn_steps first i e ts same in
          let rest = before_them (suc first) i e ts d cs (let l : i < suc first = omega arith in l) in
          omega (arith, after, before, own, rest)
      | inr other ↦
          let own = other_turn_steps first i e ts other in
          let above : suc first ≤ i = first_of (omega (arith, other), grind (arith, other)) in
          let rest = one_more (suc first) i e ts d cs above (let l : i < suc first + length cs = omega arith in l) in
          omega (arith, after, before, own, rest)
    ]

-- each turn is one step of one of the tasks
counted : {w last : World} {ts : List Turn} → Takes w ts last → (d : Devices) (cs : List Configuration) → length cs ≡ length w.tasks
    → steps_from 0 ts d cs ≡ length ts
counted no_turn d cs same = no_steps 0 d cs
counted (then_turn {world = w} {task = i} {event = e} {next = next} {turns = ts} moved rest) d cs same =
    let by = mover w i (Moves e next) moved in
    let within = slice_get-within w.tasks i by.0 by.1 in
    let kept = set_length w.tasks i next.configuration in
    let later = counted rest d cs (same ∙ sym kept) in
    let one = one_more 0 i e ts d cs (let l : 0 ≤ i = omega arith in l) (let l : i < 0 + length cs = omega arith in l) in
    one ∙ ap suc later

tasks_stay : {w last : World} {ts : List Turn} → Takes w ts last → length last.tasks ≡ length w.tasks
tasks_stay no_turn = refl
tasks_stay (then_turn {world = w} {task = i} {next = next} moved rest) = tasks_stay rest ∙ set_length w.tasks i next.configuration

pub turns_are_within_fuel : TurnsAreWithinFuel
turns_are_within_fuel fuel schedule w =
    let run = interleave fuel schedule w in
    let takes = interleavings_are_turns fuel schedule w in
    let within = within_fuel fuel schedule w in
    let all : all_steps (report_of run) ≡ length run.turns = counted takes run.last.devices run.last.tasks (tasks_stay takes) in
    (within, all, subst (λ n. n ≤ fuel) (sym all) within)
