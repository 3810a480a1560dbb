-- A task whose devices no other task reaches runs as it does alone.
use Rattle.std.proofs.Common.{◌≡◌, ℕ, List, ◌∷◌, Option, Some, inl, inr, refl, sym, ap, ◌∙◌, subst}
use Rattle.std.specs.Prelude.{slice_get, slice_set}
use Rattle.std.specs.Option.{option_map}
use Rattle.std.proofs.lemmas.Bool.{cases_eq}
use Rattle.cc_device.specs.Devices.{Devices}
use Rattle.cc_device.specs.Events.{Event}
use Rattle.cc_device.proofs.Operations.{set_at, set_elsewhere}
use Rattle.cc_runs.specs.Machine.{Configuration}
use Rattle.cc_runs.specs.Runs.{State, Move, IsStuck, IsFinal, Moves, move, ending_of, after_move, run_on, run}
use Rattle.cc_runs.specs.Interleavings.{World, state_of, move_of, after_turn, Turn, trace_of, own_events}
use Rattle.cc_runs.specs.Interleavings.{own_steps, ending_in, Takes, no_turn, then_turn}
use Rattle.cc_runs.specs.InterleavingLaws.{AreSound, ReachesDevice, TasksApartRunAsAlone}
use Rattle.cc_runs.proofs.LocalSteps.{kept_from, steps_change_what_they_reach, Agree, SameMove, same_move}
use Rattle.cc_runs.proofs.InterleavedTasks.{mover, sound_turn, tasks_stay_sound, own_turn_events, other_turn_events, own_turn_steps, other_turn_steps, own_move, own_next, other_next}

-- what comes of the second side where the first side moves
same_moves_on : (p : ℕ → Type 0) (event : Option Event) (next : State) (m : Move) → SameMove p (Moves event next) m
    → (next' : State) × (m ≡ Moves event next') × (next.configuration ≡ next'.configuration) × Agree p next.devices next'.devices
same_moves_on p event next IsStuck same = absurd same
same_moves_on p event next IsFinal same = absurd same
same_moves_on p event next (Moves event' next') same = (next', ap (λ e. Moves e next') (sym same.0), same.1, same.2)

same_ending : (p : ℕ → Type 0) (c : Configuration) (left right : Devices) (m m' : Move) → SameMove p m m' → ending_of (state_of left c) m ≡ ending_of (state_of right c) m'
same_ending p c left right IsStuck IsStuck same = refl
same_ending p c left right IsStuck IsFinal same = absurd same
same_ending p c left right IsStuck (Moves e' s') same = absurd same
same_ending p c left right IsFinal IsStuck same = absurd same
same_ending p c left right IsFinal IsFinal same = refl
same_ending p c left right IsFinal (Moves e' s') same = absurd same
same_ending p c left right (Moves e s) IsStuck same = absurd same
same_ending p c left right (Moves e s) IsFinal same = absurd same
same_ending p c left right (Moves e s) (Moves e' s') same = refl

module _ (p : ℕ → Type 0) (i : ℕ) where
  -- no other task reaches what the predicate has
  abbrev Apart : World → Type 0
  Apart w = (j : ℕ) (c : Configuration) → (j ≡ i → ⊥) → slice_get w.tasks j ≡ Some c → (n : ℕ) → ReachesDevice c n → p n → ⊥

  -- The task's run alone, from devices that agree.
  record Alone (ts : List Turn) (last : World) (c : Configuration) (devices : Devices) : Type 0 where
    after : Configuration
    left : Devices
    there : slice_get last.tasks i ≡ Some after
    ran : run (own_steps i ts) (state_of devices c) ≡ record { events = own_events i (trace_of ts); ending = ending_in left after; steps = own_steps i ts; last = state_of left after }
    agree : Agree p last.devices left
    within : (n : ℕ) → ReachesDevice after n → p n

  apart_turn : (w : World) → AreSound w → Apart w → (j : ℕ) (event : Option Event) (next : State) → move_of w j ≡ Some (Moves event next) → Apart (after_turn w j next)
  apart_turn w sound apart j event next moved k c not_own there n reaches pn =
      let by = mover w j (Moves event next) moved in
      elim (cases_eq k j) as (λ _. ⊥) [
        | inl same ↦
            let is : next.configuration ≡ c =
            some_is (sym (set_at w.tasks j by.0 next.configuration by.1) ∙ ap (slice_get (slice_set w.tasks j next.configuration)) (sym same) ∙ there) in
            let reach = (kept_from (state_of w.devices by.0) (sound j by.0 by.1) event next by.2).reach in
            let reaches' = subst (λ x. ReachesDevice x n) (sym is) reaches in
            apart j by.0 (λ e. not_own (same ∙ e)) by.1 n (reaches'.0, reach n reaches'.0 reaches'.1) pn
        | inr other ↦ apart k c not_own (sym (set_elsewhere w.tasks j k next.configuration other) ∙ there) n reaches pn
      ]
    where
      some_is : {a b : Configuration} → Some a ≡ Some b → a ≡ b
      some_is e = cc

  alone : {w last : World} {ts : List Turn} → Takes w ts last → AreSound w → Apart w → (c : Configuration) → slice_get w.tasks i ≡ Some c → ((n : ℕ) → ReachesDevice c n → p n)
      → (devices : Devices) → Agree p w.devices devices → Alone ts last c devices
  alone no_turn sound apart c there within devices agree = record { after = c; left = devices; there = there; ran = refl; agree = agree; within = within }
  alone (then_turn {world = w} {last = last} {task = j} {event = event} {next = next} {turns = ts} moved rest) sound apart c there within devices agree =
      elim (cases_eq j i) as (λ _. Alone (record { task = j; event = event } ∷ ts) last c devices) [
        | inl same ↦
            let is = own_move w i j c (Moves event next) same there moved in
            let kept = kept_from (state_of w.devices c) (sound i c there) event next is in
            let goes = same_moves_on p event next (move (state_of devices c)) (subst (λ m. SameMove p m (move (state_of devices c))) is (same_move p w.devices devices c (sound i c there).configuration within agree)) in
            let later =
            alone rest (sound_turn w sound j event next moved) (apart_turn w sound apart j event next moved) next.configuration (own_next w i j c next.configuration same there)
            (λ n reaches. within n (reaches.0, kept.reach n reaches.0 reaches.1)) goes.0.devices goes.3 in
            let next_state : state_of goes.0.devices next.configuration ≡ goes.0 = ap (λ x. state_of goes.0.devices x) goes.2 in
            let steps = own_turn_steps i j event ts same in
            let events = own_turn_events i j event ts same in
            record {
              after = later.after;
              left = later.left;
              there = later.there;
              ran =
                  ap (λ k. run k (state_of devices c)) steps
                  ∙ ap (run_on (run (own_steps i ts)) (state_of devices c)) goes.1
                  ∙ ap (λ s. after_move event (run (own_steps i ts) s)) (sym next_state)
                  ∙ ap (after_move event) later.ran
                  ∙ (λ z. record { events = sym events z; ending = ending_in later.left later.after; steps = sym steps z; last = state_of later.left later.after });
              agree = later.agree;
              within = later.within;
            }
        | inr other ↦
            let by = mover w j (Moves event next) moved in
            let later =
            alone rest (sound_turn w sound j event next moved) (apart_turn w sound apart j event next moved) c (other_next w i j c next.configuration other there) within devices
            (λ n pn. steps_change_what_they_reach (state_of w.devices by.0) next event (sound j by.0 by.1) by.2 n (λ reaches. apart j by.0 other by.1 n reaches pn) ∙ agree n pn) in
            let steps = other_turn_steps i j event ts other in
            let events = other_turn_events i j event ts other in
            record {
              after = later.after;
              left = later.left;
              there = later.there;
              ran =
                  ap (λ k. run k (state_of devices c)) steps ∙ later.ran
                  ∙ (λ z. record { events = sym events z; ending = ending_in later.left later.after; steps = sym steps z; last = state_of later.left later.after });
              agree = later.agree;
              within = later.within;
            }
      ]

pub tasks_apart_run_as_alone : TasksApartRunAsAlone
tasks_apart_run_as_alone w last ts sound takes i c there apart =
    let it = alone (ReachesDevice c) i takes sound (λ j c' other at n reaches pn. apart j c' other at n pn reaches) c there (λ n r. r) w.devices (λ n r. refl) in
    let sound_last = tasks_stay_sound w last ts sound takes i it.after it.there in
    let same = same_move (ReachesDevice c) last.devices it.left it.after sound_last.configuration it.within it.agree in
    record {
      events = ap (λ r. r.events) it.ran;
      ending =
          ap (λ r. Some r.ending) it.ran
          ∙ ap (λ e. Some e) (sym (same_ending (ReachesDevice c) it.after last.devices it.left (move (state_of last.devices it.after)) (move (state_of it.left it.after)) same))
          ∙ sym (ap (option_map (ending_in last.devices)) it.there);
      steps = ap (λ r. r.steps) it.ran;
      configuration = ap (λ r. Some r.last.configuration) it.ran ∙ sym it.there;
      reached = λ n r. it.agree n r ∙ sym (ap (λ x. slice_get x.last.devices n) it.ran);
    }
