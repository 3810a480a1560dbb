-- A run that has gone on for some steps, and its end.
use Rattle.std.proofs.Common.{◌≡◌, ℕ, zero, suc, ◌+◌, ◌-◌, ◌<◌, ◌≤◌, List, [], ◌∷◌, ◌++◌, map, Option, Some, None, refl, sym, ap, ◌∙◌, subst, arith, append_assoc}
use Rattle.std.proofs.lemmas.List.{append-nil, map-append}
use Rattle.std.proofs.Math.Logic.{∥∥₁_elim}
use Rattle.cc_device.specs.Devices.{Devices}
use Rattle.cc_device.specs.Endings.{Shown, End, Done, OutOfFuel}
use Rattle.cc_device.specs.Events.{Event, Operated, IsWellScoped}
use Rattle.cc_device.specs.declared.events.Event.{Event as DeclaredEvent}
use Rattle.cc_device.specs.DeviceViews.{end_of, event_of}
use Rattle.cc_machine.specs.declared.runs.RunReport.{RunReport}
use Rattle.cc_machine.specs.Reports.{HasEnd, events_of, IsRunOf, ReportsRuns, TellsFuel, OperatesWhatIsReached, IsWellScopedFrom}
use Rattle.cc_machine.specs.Standing.{StandsFor, StandsSoundly, with_devices, StepsAlike}
use Rattle.cc_runs.specs.Answers.{shown}
use Rattle.cc_runs.specs.Machine.{Configuration, Final, step}
use Rattle.cc_runs.specs.Runs.{State, Move, IsStuck, IsFinal, Moves, move, closed, with_event, Ends, Run, ended, after_move, end_with, ending_of, run_on, run}
use Rattle.cc_runs.specs.SoundRuns.{HasShapesOfCells}
use Rattle.cc_runs.specs.SafeRuns.{IsAmong}
use Rattle.cc_runs.proofs.Erasure.{erased_move, shown-erased}
use Rattle.cc_runs.proofs.Finality.{final_exactly_where_answered, final_states_are_answered}
use Rattle.cc_runs.proofs.RunSteps.{out_of_fuel_exactly}
use Rattle.cc_runs.proofs.RunTheorems.{operated_devices_are_reached, runs_are_steps, events_are_well_scoped}
use Rattle.cc_machine.proofs.StandingLemmas.{move_held, never_stuck, final_back, sound_state}

-- a run behind events that were there before, and steps that were taken
abbrev pub onward : List Event → ℕ → Run → Run
onward events steps later =
    record { events = events ++ later.events; ending = later.ending; steps = steps + later.steps; last = later.last }

-- the run of each configuration that is stood for goes on so
pub record GoesOnward (fuel : ℕ) (held : Configuration) (devices : Devices) (events : List Event) (steps : ℕ) (held' : Configuration) (devices' : Devices)
    (configuration : Configuration) : Type 0 where
  pub now : Configuration
  pub stands : StandsFor held' now
  pub onward : run fuel (with_devices configuration devices) ≡ onward events steps (run (fuel - steps) (with_devices now devices'))

abbrev pub AllGoOnward : ℕ → Configuration → Devices → List Event → ℕ → Configuration → Devices → Type 0
AllGoOnward fuel held devices events steps held' devices' =
    (configuration : Configuration) → StandsFor held configuration → GoesOnward fuel held devices events steps held' devices' configuration

abbrev pub listed : Option Event → List Event
listed None = []
listed (Some event) = event ∷ []

more_events : (es : List Event) (e : Option Event) (later : List Event) → es ++ with_event e later ≡ (es ++ listed e) ++ later
more_events es None later = sym (append_assoc es [] later)
more_events es (Some e) later = sym (append_assoc es (e ∷ []) later)

onward_after : (es : List Event) (k : ℕ) (e : Option Event) (r : Run) → onward es k (after_move e r) ≡ onward (es ++ listed e) (k + 1) r
onward_after es k e r =
    let count : k + suc r.steps ≡ k + 1 + r.steps = omega arith in
    λ j. record { events = more_events es e r.events j; ending = r.ending; steps = count j; last = r.last }

pub goes_onward : (fuel : ℕ) (held : Configuration) (devices : Devices) (events : List Event) (steps : ℕ) (held' held'' : Configuration) (devices' devices'' : Devices) (event : Option Event)
    → steps < fuel → AllGoOnward fuel held devices events steps held' devices' → StepsAlike held' devices' event held'' devices''
    → AllGoOnward fuel held devices (events ++ listed event) (steps + 1) held'' devices''
goes_onward fuel held devices events steps held' held'' devices' devices'' event less go alike c stands =
    let before = go c stands in
    let next = alike.moves before.now before.stands in
    let left : fuel - steps ≡ suc (fuel - (steps + 1)) = omega arith in
    record {
      now = next.0;
      stands = next.2;
      onward =
          before.onward
          ∙ ap (λ n. onward events steps (run n (with_devices before.now devices'))) left
          ∙ ap (λ m. onward events steps (run_on (run (fuel - (steps + 1))) (with_devices before.now devices') m)) next.1
          ∙ onward_after events steps event (run (fuel - (steps + 1)) (with_devices next.0 devices''));
    }

-- at an end the run is over
over : (fuel : ℕ) (state : State) → move state ≡ IsFinal → run fuel state ≡ ended (end_with (shown state.configuration)) state
over zero state is = ap (λ m. ended (ending_of state m) state) is
over (suc fuel) state is = ap (run_on (run fuel) state) is

pub run_done : (n : ℕ) (held : Configuration) (devices : Devices) (c : Configuration) (shows : Shown) → StandsFor held c → step held ≡ Final → shown held ≡ Some shows
    → run n (with_devices c devices) ≡ ended (Ends (Done shows)) (with_devices c devices)
run_done n held devices c shows stands final is =
    over n (with_devices c devices) (final_back (move (with_devices c devices)) (sym (move_held held c stands devices) ∙ ap (closed devices) final))
    ∙ ap (λ o. ended (end_with o) (with_devices c devices)) (sym (shown-erased c) ∙ ap shown stands ∙ is)

-- out of fuel
still : (state : State) (m : Move) → (m ≡ IsStuck → ⊥) → (m ≡ IsFinal → ⊥) → ending_of state m ≡ Ends OutOfFuel
still state IsStuck s f = absurd (s refl)
still state IsFinal s f = absurd (f refl)
still state (Moves e n) s f = refl

pub run_out : (held : Configuration) (devices : Devices) (c : Configuration) → StandsFor held c → HasShapesOfCells held.store devices → ∥ StandsSoundly held ∥₁
    → (move (with_devices held devices) ≡ IsFinal → ⊥)
    → run 0 (with_devices c devices) ≡ ended (Ends OutOfFuel) (with_devices c devices)
run_out held devices c stands fits sound running =
    ap (λ e. ended e (with_devices c devices))
    (still (with_devices c devices) (move (with_devices c devices))
    (λ is. ∥∥₁_elim sound (hlevel) (λ s. never_stuck held devices fits s (move_held held c stands devices ∙ ap erased_move is)))
    (λ is. running (move_held held c stands devices ∙ ap erased_move is)))

-- what the report of a run says, of each configuration that is stood for
reported_one : (fuel : ℕ) (held : Configuration) (devices : Devices) (events : List Event) (steps : ℕ) (held' : Configuration) (devices' : Devices) (report : RunReport) (c : Configuration)
    → GoesOnward fuel held devices events steps held' devices' c
    → ((now : Configuration) → StandsFor held' now → run (fuel - steps) (with_devices now devices') ≡ ended (Ends (end_of report.end)) (with_devices now devices'))
    → events ≡ events_of report → steps ≡ report.steps → IsRunOf held devices fuel report held' devices' c
reported_one fuel held devices events steps held' devices' report c go over same count =
    let whole : run fuel (with_devices c devices) ≡ onward events steps (ended (Ends (end_of report.end)) (with_devices go.now devices')) =
    go.onward ∙ ap (onward events steps) (over go.now go.stands) in
    let taken : steps + 0 ≡ report.steps = omega (arith, count) in
    record {
      events = ap (λ r. r.events) whole ∙ append-nil events ∙ same;
      ending = ap (λ r. r.ending) whole;
      steps = ap (λ r. r.steps) whole ∙ taken;
      last = subst (λ r. StandsFor held' r.last.configuration) (sym whole) go.stands;
      last_devices = ap (λ r. r.last.devices) whole;
    }

-- where it has come to its end
over_at : (fuel steps : ℕ) (held' : Configuration) (devices' : Devices) (end : End) → HasEnd held' end → (end ≡ OutOfFuel → fuel ≤ steps)
    → HasShapesOfCells held'.store devices' → ∥ StandsSoundly held' ∥₁ → (now : Configuration) → StandsFor held' now
    → run (fuel - steps) (with_devices now devices') ≡ ended (Ends end) (with_devices now devices')
over_at fuel steps held' devices' (Done shows) has out fits sound now stands = run_done (fuel - steps) held' devices' now shows stands has.0 has.1
over_at fuel steps held' devices' OutOfFuel has out fits sound now stands =
    let past = out refl in
    let none : fuel - steps ≡ 0 = omega arith in
    ap (λ n. run n (with_devices now devices')) none
    ∙ run_out held' devices' now stands fits sound
    (λ is. has ((final_exactly_where_answered held').1 ((final_states_are_answered (with_devices held' devices')).0 is)))

pub reported : (fuel : ℕ) (held : Configuration) (devices : Devices) (events : List Event) (steps : ℕ) (held' : Configuration) (devices' : Devices) (report : RunReport)
    → AllGoOnward fuel held devices events steps held' devices' → HasEnd held' (end_of report.end) → (end_of report.end ≡ OutOfFuel → fuel ≤ steps)
    → HasShapesOfCells held'.store devices' → ∥ StandsSoundly held' ∥₁ → events ≡ events_of report → steps ≡ report.steps
    → ReportsRuns held devices fuel report held' devices'
reported fuel held devices events steps held' devices' report go has out fits sound same count c stands =
    reported_one fuel held devices events steps held' devices' report c (go c stands)
    (over_at fuel steps held' devices' (end_of report.end) has out fits sound) same count

-- what follows of it
ends_one : (e : End) → Ends e ≡ Ends OutOfFuel → e ≡ OutOfFuel
ends_one e is = cc

module _ (fuel : ℕ) (held : Configuration) (devices : Devices) (report : RunReport) (held' : Configuration) (devices' : Devices)
    (reports : ReportsRuns held devices fuel report held' devices') where
  pub tells_fuel : TellsFuel held devices fuel (end_of report.end)
  tells_fuel c stands =
      let law = out_of_fuel_exactly fuel (with_devices c devices) in
      let ending = (reports c stands).ending in
      (λ is. law.0 (ending ∙ ap (λ e. Ends e) is), λ goes. ends_one (end_of report.end) (sym ending ∙ law.1 goes))

  pub operates_reached : HasShapesOfCells held.store devices → OperatesWhatIsReached held (events_of report)
  operates_reached fits c stands sound device operation literal among =
      operated_devices_are_reached (with_devices c devices) (run fuel (with_devices c devices)).last (run fuel (with_devices c devices)).events
      (sound_state held c stands devices sound fits) (runs_are_steps fuel (with_devices c devices)) device operation literal
      (subst (IsAmong (Operated device operation literal)) (sym (reports c stands).events) among)

  pub well_scoped_from : HasShapesOfCells held.store devices → IsWellScopedFrom held (events_of report)
  well_scoped_from fits c stands sound empty =
      subst IsWellScoped (reports c stands).events
      (events_are_well_scoped fuel (with_devices c devices) (sound_state held c stands devices sound fits) empty)

-- one step more, with its event in the trace or without one
pub traced : {fuel : ℕ} {held : Configuration} {devices : Devices} {steps : ℕ} {held' : Configuration} {devices' : Devices} (old new : List DeclaredEvent) (event : DeclaredEvent)
    → new ≡ old ++ event ∷ [] → AllGoOnward fuel held devices (map event_of old ++ listed (Some (event_of event))) steps held' devices'
    → AllGoOnward fuel held devices (map event_of new) steps held' devices'
traced {fuel} {held} {devices} {steps} {held'} {devices'} old new event is go =
    subst (λ es. AllGoOnward fuel held devices es steps held' devices') (sym (ap (map event_of) is ∙ map-append event_of old (event ∷ []))) go

pub untraced : {fuel : ℕ} {held : Configuration} {devices : Devices} {steps : ℕ} {held' : Configuration} {devices' : Devices} (events : List Event)
    → AllGoOnward fuel held devices (events ++ []) steps held' devices' → AllGoOnward fuel held devices events steps held' devices'
untraced {fuel} {held} {devices} {steps} {held'} {devices'} events go =
    subst (λ es. AllGoOnward fuel held devices es steps held' devices') (append-nil events) go
