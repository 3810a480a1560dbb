-- Tasks that run interleaved: turns, soundness, promises and histories.
use Rattle.std.proofs.Common.{◌≡◌, ◌⊎◌, ℕ, zero, suc, List, [], ◌∷◌, ◌++◌, length, Option, Some, None, inl, inr, refl, sym, ap, ◌∙◌, subst}
use Rattle.std.specs.Prelude.{nat_eq, slice_get, slice_set}
use Rattle.std.specs.Option.{option_map}
use Rattle.std.proofs.lemmas.Bool.{cases_eq, cond-true, cond-false, eq-eqb, ne_eqb}
use Rattle.cc_core.specs.Typing.{base_operated}
use Rattle.cc_core.specs.Stores.{DeviceCell, Store}
use Rattle.cc_device.specs.Devices.{DeviceState, base_of_device, Devices}
use Rattle.cc_device.specs.Events.{Event, Operated, no_event, FollowsAll}
use Rattle.cc_device.proofs.Operations.{set_at, set_elsewhere}
use Rattle.cc_runs.specs.Machine.{Configuration}
use Rattle.cc_runs.specs.Reach.{SetReaches, captured_set}
use Rattle.cc_runs.specs.Runs.{State, Move, IsStuck, IsFinal, Moves, move, with_event}
use Rattle.cc_runs.specs.SafeRuns.{scopes_of, IsListed, IsAmong}
use Rattle.cc_runs.specs.SoundRuns.{FitsDevices, IsSoundState, IsSoundMove}
use Rattle.cc_runs.specs.Interleavings.{World, state_of, move_of, after_turn, Turn, Chosen, offered, chosen_from}
use Rattle.cc_runs.specs.Interleavings.{Interleaving, take_turn, go_on, interleave, trace_of, all_events}
use Rattle.cc_runs.specs.Interleavings.{own_events, own_steps, Takes, no_turn, then_turn, IsAtRest, events_on}
use Rattle.cc_runs.specs.Interleavings.{History, quiet}
use Rattle.cc_runs.specs.InterleavingLaws.{AreSound, InterleavingsAreTurns, SchedulesGoOn, TasksStaySound, KeepsItsPromises, TasksKeepTheirPromises, DevicesHaveHistories}
use Rattle.cc_runs.proofs.DeviceTable.{moves_keep_the_devices}
use Rattle.cc_runs.proofs.RunTheorems.{fitting_is_by_shapes, moves_are_sound, among, follow}
use Rattle.cc_runs.proofs.LocalSteps.{kept_from, move_continues, with_on}

-- a move of a task is that of its configuration
some_is : {A : Type 0} (a b : A) → Some a ≡ Some b → a ≡ b
some_is a b e = cc

pub mover : (w : World) (i : ℕ) (m : Move) → move_of w i ≡ Some m → (c : Configuration) × (slice_get w.tasks i ≡ Some c) × (move (state_of w.devices c) ≡ m)
mover w i m e = of_task (slice_get w.tasks i) refl e
  where
    of_task : (o : Option Configuration) → slice_get w.tasks i ≡ o → option_map (λ c. move (state_of w.devices c)) o ≡ Some m → (c : Configuration) × (slice_get w.tasks i ≡ Some c) × (move (state_of w.devices c) ≡ m)
    of_task None is e' = cc
    of_task (Some c) is e' = (c, is, some_is (move (state_of w.devices c)) m e')

-- Soundness.
refitted : (st : Store) (devices devices' : Devices) → FitsDevices st devices → ((n : ℕ) → option_map base_of_device (slice_get devices' n) ≡ option_map base_of_device (slice_get devices n)) → FitsDevices st devices'
refitted st devices devices' fits same =
    (fitting_is_by_shapes st devices').1 (λ p n b at. same n ∙ (fitting_is_by_shapes st devices).0 fits p n b at)

pub sound_turn : (w : World) → AreSound w → (i : ℕ) (event : Option Event) (next : State) → move_of w i ≡ Some (Moves event next) → AreSound (after_turn w i next)
sound_turn w sound i event next moved j c there =
    let by = mover w i (Moves event next) moved in
    let kept = kept_from (state_of w.devices by.0) (sound i by.0 by.1) event next by.2 in
    elim (cases_eq j i) as (λ _. IsSoundState (state_of next.devices c)) [
      | inl same ↦
          let is : next.configuration ≡ c =
          some_is next.configuration c (sym (set_at w.tasks i by.0 next.configuration by.1) ∙ ap (slice_get (slice_set w.tasks i next.configuration)) (sym same) ∙ there) in
          subst (λ x. IsSoundState (state_of next.devices x)) is kept.sound
      | inr other ↦
          let before = sound j c (sym (set_elsewhere w.tasks i j next.configuration other) ∙ there) in
          record {
            configuration = before.configuration;
            devices = refitted c.store w.devices next.devices before.devices (moves_keep_the_devices (state_of w.devices by.0) next event by.2).1;
          }
    ]

sound_after : {w last : World} {ts : List Turn} → Takes w ts last → AreSound w → AreSound last
sound_after no_turn sound = sound
sound_after (then_turn {world = w} {task = i} {event = e} {next = next} moved rest) sound = sound_after rest (sound_turn w sound i e next moved)

pub tasks_stay_sound : TasksStaySound
tasks_stay_sound w last ts sound takes = sound_after takes sound

-- What is chosen is a task's move, and not that of a final one.
module _ (w : World) where
  abbrev pub IsTurn : Chosen → Type 0
  IsTurn c = (move_of w c.task ≡ Some c.comes) × (c.comes ≡ IsFinal → ⊥)

  pub is_turn : (passed others : List ℕ) (c : Chosen) → chosen_from w passed others ≡ Some c → IsTurn c
  is_turn passed [] c e = cc
  is_turn passed (i ∷ others) c e = by_move (is_turn (passed ++ i ∷ []) others c) (move_of w i) refl e
    where
      here : (m : Move) → move_of w i ≡ Some m → (m ≡ IsFinal → ⊥) → Some (record { task = i; comes = m; later = others ++ passed ++ i ∷ [] }) ≡ Some c → IsTurn c
      here m is not_final e' = subst IsTurn (some_is (record { task = i; comes = m; later = others ++ passed ++ i ∷ [] }) c e') (is, not_final)

      stuck_is_not_final : IsStuck ≡ IsFinal → ⊥
      stuck_is_not_final q = cc

      moves_is_not_final : (event : Option Event) (next : State) → Moves event next ≡ IsFinal → ⊥
      moves_is_not_final event next q = cc

      by_move : (chosen_from w (passed ++ i ∷ []) others ≡ Some c → IsTurn c) → (o : Option Move) → move_of w i ≡ o
          → offered i (others ++ passed ++ i ∷ []) (chosen_from w (passed ++ i ∷ []) others) o ≡ Some c → IsTurn c
      by_move rest None is e' = rest e'
      by_move rest (Some IsFinal) is e' = rest e'
      by_move rest (Some IsStuck) is e' = here IsStuck is stuck_is_not_final e'
      by_move rest (Some (Moves event next)) is e' = here (Moves event next) is (moves_is_not_final event next) e'

  -- where nothing is chosen, all are at rest
  all_at_rest : (passed others : List ℕ) → chosen_from w passed others ≡ None → (i : ℕ) → IsListed i others → IsAtRest (move_of w i)
  all_at_rest passed [] e i h = absurd h
  all_at_rest passed (j ∷ others) e i h = by_move (λ e' later. all_at_rest (passed ++ j ∷ []) others e' i later) (move_of w j) refl e
    where
      at_rest : (chosen_from w (passed ++ j ∷ []) others ≡ None → IsListed i others → IsAtRest (move_of w i)) → (o : Option Move) → move_of w j ≡ o → IsAtRest o
          → chosen_from w (passed ++ j ∷ []) others ≡ None → IsAtRest (move_of w i)
      at_rest others_rest o is rest e' =
          elim h as (λ _. IsAtRest (move_of w i)) [
            | inl same ↦ subst IsAtRest (sym (ap (move_of w) same ∙ is)) rest
            | inr later ↦ others_rest e' later
          ]

      by_move : (chosen_from w (passed ++ j ∷ []) others ≡ None → IsListed i others → IsAtRest (move_of w i)) → (o : Option Move) → move_of w j ≡ o
          → offered j (others ++ passed ++ j ∷ []) (chosen_from w (passed ++ j ∷ []) others) o ≡ None → IsAtRest (move_of w i)
      by_move others_rest None is e' = at_rest others_rest None is tt e'
      by_move others_rest (Some IsFinal) is e' = at_rest others_rest (Some IsFinal) is tt e'
      by_move others_rest (Some IsStuck) is e' = cc
      by_move others_rest (Some (Moves event next)) is e' = cc

  -- the schedule keeps its tasks
  listed_left : (xs ys : List ℕ) (i : ℕ) → IsListed i xs → IsListed i (xs ++ ys)
  listed_left [] ys i h = absurd h
  listed_left (x ∷ xs) ys i (inl same) = inl same
  listed_left (x ∷ xs) ys i (inr h) = inr (listed_left xs ys i h)

  listed_right : (xs ys : List ℕ) (i : ℕ) → IsListed i ys → IsListed i (xs ++ ys)
  listed_right [] ys i h = h
  listed_right (x ∷ xs) ys i h = inr (listed_right xs ys i h)

  listed_parts : (xs ys : List ℕ) (i : ℕ) → IsListed i (xs ++ ys) → IsListed i xs ⊎ IsListed i ys
  listed_parts [] ys i h = inr h
  listed_parts (x ∷ xs) ys i (inl same) = inl (inl same)
  listed_parts (x ∷ xs) ys i (inr h) = elim (listed_parts xs ys i h) as (λ _. IsListed i (x ∷ xs) ⊎ IsListed i ys) [ inl l ↦ inl (inr l) | inr r ↦ inr r ]

  -- the tasks of the three parts of a schedule, in whichever order
  turned : (passed others : List ℕ) (j i : ℕ) → IsListed i (passed ++ j ∷ others) → IsListed i (others ++ passed ++ j ∷ [])
  turned passed others j i h =
      elim (listed_parts passed (j ∷ others) i h) as (λ _. IsListed i (others ++ passed ++ j ∷ [])) [
        | inl p ↦ listed_left (others ++ passed) (j ∷ []) i (listed_right others passed i p)
        | inr r ↦ elim r as (λ _. IsListed i (others ++ passed ++ j ∷ [])) [
          | inl same ↦ listed_right (others ++ passed) (j ∷ []) i (inl same)
          | inr o ↦ listed_left (others ++ passed) (j ∷ []) i (listed_left others passed i o)
        ]
      ]

  passed_on : (passed others : List ℕ) (j i : ℕ) → IsListed i (passed ++ j ∷ others) → IsListed i ((passed ++ j ∷ []) ++ others)
  passed_on passed others j i h =
      elim (listed_parts passed (j ∷ others) i h) as (λ _. IsListed i ((passed ++ j ∷ []) ++ others)) [
        | inl p ↦ listed_left (passed ++ j ∷ []) others i (listed_left passed (j ∷ []) i p)
        | inr r ↦ elim r as (λ _. IsListed i ((passed ++ j ∷ []) ++ others)) [
          | inl same ↦ listed_left (passed ++ j ∷ []) others i (listed_right passed (j ∷ []) i (inl same))
          | inr o ↦ listed_right (passed ++ j ∷ []) others i o
        ]
      ]

  still_scheduled : (passed others : List ℕ) (c : Chosen) → chosen_from w passed others ≡ Some c → (i : ℕ) → IsListed i (passed ++ others) → IsListed i c.later
  still_scheduled passed [] c e i h = cc
  still_scheduled passed (j ∷ others) c e i h =
      by_move (λ e'. still_scheduled (passed ++ j ∷ []) others c e' i (passed_on passed others j i h)) (move_of w j) e
    where
      here : (m : Move) → Some (record { task = j; comes = m; later = others ++ passed ++ j ∷ [] }) ≡ Some c → IsListed i c.later
      here m e' = subst (λ (x : Chosen). IsListed i x.later) (some_is (record { task = j; comes = m; later = others ++ passed ++ j ∷ [] }) c e') (turned passed others j i h)

      by_move : (chosen_from w (passed ++ j ∷ []) others ≡ Some c → IsListed i c.later) → (o : Option Move)
          → offered j (others ++ passed ++ j ∷ []) (chosen_from w (passed ++ j ∷ []) others) o ≡ Some c → IsListed i c.later
      by_move rest None e' = rest e'
      by_move rest (Some IsFinal) e' = rest e'
      by_move rest (Some IsStuck) e' = here IsStuck e'
      by_move rest (Some (Moves event next)) e' = here (Moves event next) e'

-- Interleaved runs are turns.
turn_takes : (rest : List ℕ → World → Interleaving) → ((schedule : List ℕ) (w : World) → Takes w (rest schedule w).turns (rest schedule w).last)
    → (w : World) (c : Chosen) (m : Move) → move_of w c.task ≡ Some m → Takes w (take_turn rest w c.task c.later m).turns (take_turn rest w c.task c.later m).last
turn_takes rest all w c IsStuck is = no_turn
turn_takes rest all w c IsFinal is = no_turn
turn_takes rest all w c (Moves event next) is = then_turn is (all c.later (after_turn w c.task next))

choice_takes : (rest : List ℕ → World → Interleaving) → ((schedule : List ℕ) (w : World) → Takes w (rest schedule w).turns (rest schedule w).last)
    → (w : World) (schedule : List ℕ) (o : Option Chosen) → chosen_from w [] schedule ≡ o → Takes w (go_on rest w o).turns (go_on rest w o).last
choice_takes rest all w schedule None is = no_turn
choice_takes rest all w schedule (Some c) is = turn_takes rest all w c c.comes (is_turn w [] schedule c is).0

pub interleavings_are_turns : InterleavingsAreTurns
interleavings_are_turns zero schedule w = no_turn
interleavings_are_turns (suc fuel) schedule w = choice_takes (interleave fuel) (interleavings_are_turns fuel) w schedule (chosen_from w [] schedule) refl

-- They go on.
abbrev GoesOn : ℕ → List ℕ → Interleaving → Type 0
GoesOn fuel schedule run = (length run.turns ≡ fuel) ⊎ ((i : ℕ) → IsListed i schedule → IsAtRest (move_of run.last i))

pub not_stuck : (w : World) → AreSound w → (i : ℕ) → move_of w i ≡ Some IsStuck → ⊥
not_stuck w sound i is =
    let by = mover w i IsStuck is in
    subst (IsSoundMove (state_of w.devices by.0)) by.2 (moves_are_sound (state_of w.devices by.0) (sound i by.0 by.1))

turn_goes_on : (fuel : ℕ) (schedule : List ℕ) (rest : List ℕ → World → Interleaving) → ((s : List ℕ) (v : World) → AreSound v → GoesOn fuel s (rest s v))
    → (w : World) → AreSound w → (c : Chosen) → ((i : ℕ) → IsListed i schedule → IsListed i c.later) → (m : Move) → move_of w c.task ≡ Some m → (m ≡ IsFinal → ⊥)
    → GoesOn (suc fuel) schedule (take_turn rest w c.task c.later m)
turn_goes_on fuel schedule rest all w sound c keeps IsStuck is not_final = absurd (not_stuck w sound c.task is)
turn_goes_on fuel schedule rest all w sound c keeps IsFinal is not_final = absurd (not_final refl)
turn_goes_on fuel schedule rest all w sound c keeps (Moves event next) is not_final =
    elim (all c.later (after_turn w c.task next) (sound_turn w sound c.task event next is)) as (λ _. GoesOn (suc fuel) schedule (take_turn rest w c.task c.later (Moves event next))) [
      | inl full ↦ inl (ap suc full)
      | inr rests ↦ inr (λ i h. rests i (keeps i h))
    ]

choice_goes_on : (fuel : ℕ) (rest : List ℕ → World → Interleaving) → ((s : List ℕ) (v : World) → AreSound v → GoesOn fuel s (rest s v))
    → (w : World) → AreSound w → (schedule : List ℕ) (o : Option Chosen) → chosen_from w [] schedule ≡ o → GoesOn (suc fuel) schedule (go_on rest w o)
choice_goes_on fuel rest all w sound schedule None is = inr (all_at_rest w [] schedule is)
choice_goes_on fuel rest all w sound schedule (Some c) is =
    let turn = is_turn w [] schedule c is in
    turn_goes_on fuel schedule rest all w sound c (still_scheduled w [] schedule c is) c.comes turn.0 turn.1

pub schedules_go_on : SchedulesGoOn
schedules_go_on zero schedule w sound = inl refl
schedules_go_on (suc fuel) schedule w sound = choice_goes_on fuel (interleave fuel) (schedules_go_on fuel) w sound schedule (chosen_from w [] schedule) refl

-- A task's own turns, and those of others.
pub own_turn_events : (i j : ℕ) (event : Option Event) (ts : List Turn) → j ≡ i → own_events i (trace_of (record { task = j; event = event } ∷ ts)) ≡ with_event event (own_events i (trace_of ts))
own_turn_events i j None ts same = refl
own_turn_events i j (Some e) ts same = cond-true (nat_eq j i) (e ∷ own_events i (trace_of ts)) (own_events i (trace_of ts)) (eq-eqb j i same)

pub other_turn_events : (i j : ℕ) (event : Option Event) (ts : List Turn) → (j ≡ i → ⊥) → own_events i (trace_of (record { task = j; event = event } ∷ ts)) ≡ own_events i (trace_of ts)
other_turn_events i j None ts other = refl
other_turn_events i j (Some e) ts other = cond-false (nat_eq j i) (e ∷ own_events i (trace_of ts)) (own_events i (trace_of ts)) (ne_eqb j i other)

pub own_turn_steps : (i j : ℕ) (event : Option Event) (ts : List Turn) → j ≡ i → own_steps i (record { task = j; event = event } ∷ ts) ≡ suc (own_steps i ts)
own_turn_steps i j event ts same = cond-true (nat_eq j i) _ _ (eq-eqb j i same)

pub other_turn_steps : (i j : ℕ) (event : Option Event) (ts : List Turn) → (j ≡ i → ⊥) → own_steps i (record { task = j; event = event } ∷ ts) ≡ own_steps i ts
other_turn_steps i j event ts other = cond-false (nat_eq j i) _ _ (ne_eqb j i other)

-- the configuration of the task that has its turn
pub own_move : (w : World) (i j : ℕ) (c : Configuration) (m : Move) → j ≡ i → slice_get w.tasks i ≡ Some c → move_of w j ≡ Some m → move (state_of w.devices c) ≡ m
own_move w i j c m same there moved =
    let by = mover w j m moved in
    let is : by.0 ≡ c = some_is by.0 c (sym by.1 ∙ ap (slice_get w.tasks) same ∙ there) in
    ap (λ x. move (state_of w.devices x)) (sym is) ∙ by.2

pub own_next : (w : World) (i j : ℕ) (c next : Configuration) → j ≡ i → slice_get w.tasks i ≡ Some c → slice_get (slice_set w.tasks j next) i ≡ Some next
own_next w i j c next same there = ap (λ k. slice_get (slice_set w.tasks k next) i) same ∙ set_at w.tasks i c next there

pub other_next : (w : World) (i j : ℕ) (c next : Configuration) → (j ≡ i → ⊥) → slice_get w.tasks i ≡ Some c → slice_get (slice_set w.tasks j next) i ≡ Some c
other_next w i j c next other there = set_elsewhere w.tasks j i next (λ e. other (sym e)) ∙ there

-- Promises.
module _ (i : ℕ) where
  keeps : {w last : World} {ts : List Turn} → Takes w ts last → AreSound w → (c : Configuration) → slice_get w.tasks i ≡ Some c → KeepsItsPromises i c ts last
  keeps no_turn sound c there = record { after = c; there = there; operated = λ n op l h. absurd h; reach = λ n b r. r; scopes = no_event }
  keeps (then_turn {world = w} {last = last} {task = j} {event = event} {next = next} {turns = ts} moved rest) sound c there =
      elim (cases_eq j i) as (λ _. KeepsItsPromises i c (record { task = j; event = event } ∷ ts) last) [
        | inl same ↦
            let kept = kept_from (state_of w.devices c) (sound i c there) event next (own_move w i j c (Moves event next) same there moved) in
            let later = keeps rest (sound_turn w sound j event next moved) next.configuration (own_next w i j c next.configuration same there) in
            let events = own_turn_events i j event ts same in
            record {
              after = later.after;
              there = later.there;
              operated = λ n op l h.
                  elim (among event (own_events i (trace_of ts)) (Operated n op l) (subst (IsAmong (Operated n op l)) events h)) as (λ _. SetReaches c.store (captured_set c) (DeviceCell n (base_operated op))) [
                    | inl now ↦ kept.operated n op l now
                    | inr then ↦ kept.reach n (base_operated op) (later.operated n op l then)
                  ];
              reach = λ n b r. kept.reach n b (later.reach n b r);
              scopes =
                  subst (λ (es : List Event). FollowsAll (scopes_of c.stack) es (scopes_of later.after.stack)) (sym events)
                  (follow (scopes_of c.stack) (scopes_of next.configuration.stack) (scopes_of later.after.stack) event (own_events i (trace_of ts)) kept.scopes later.scopes);
            }
        | inr other ↦
            let later = keeps rest (sound_turn w sound j event next moved) c (other_next w i j c next.configuration other there) in
            let events = other_turn_events i j event ts other in
            record {
              after = later.after;
              there = later.there;
              operated = λ n op l h. later.operated n op l (subst (IsAmong (Operated n op l)) events h);
              reach = later.reach;
              scopes = subst (λ (es : List Event). FollowsAll (scopes_of c.stack) es (scopes_of later.after.stack)) (sym events) later.scopes;
            }
      ]

pub tasks_keep_their_promises : TasksKeepTheirPromises
tasks_keep_their_promises w last ts sound takes i c there = keeps i takes sound c there

-- Histories.
abbrev HasHistory : ℕ → DeviceState → List Event → Devices → Type 0
HasHistory number device events devices = (device' : DeviceState) × (slice_get devices number ≡ Some device') × History number device events device'

first_event : (number j : ℕ) (event : Option Event) (ts : List Turn) → with_on number event (events_on number (all_events (trace_of ts))) ≡ events_on number (all_events (trace_of (record { task = j; event = event } ∷ ts)))
first_event number j None ts = refl
first_event number j (Some e) ts = refl

histories : {w last : World} {ts : List Turn} → Takes w ts last → AreSound w → (number : ℕ) (device : DeviceState) → slice_get w.devices number ≡ Some device → HasHistory number device (events_on number (all_events (trace_of ts))) last.devices
histories no_turn sound number device there = (device, there, quiet)
histories (then_turn {world = w} {last = last} {task = j} {event = event} {next = next} {turns = ts} moved rest) sound number device there =
    let by = mover w j (Moves event next) moved in
    let goes = move_continues number device (state_of w.devices by.0) (sound j by.0 by.1) there event next by.2 in
    let later = histories rest (sound_turn w sound j event next moved) number goes.0 goes.1 in
    (later.0, later.1, subst (λ (es : List Event). History number device es later.0) (first_event number j event ts) (goes.2 (events_on number (all_events (trace_of ts))) later.0 later.2))

pub devices_have_histories : DevicesHaveHistories
devices_have_histories w last ts sound takes number device there = histories takes sound number device there
