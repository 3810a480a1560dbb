-- Runs of sound starts are safe.
use Rattle.std.proofs.Common.{◌≡◌, ◌<◌, ℕ, Bool, true, false, List, [], ◌∷◌, ◌++◌, inl, inr, ◌⊎◌, refl, sym, ap, ◌∙◌, subst}
use Rattle.cc_base.specs.declared.literal.Base.{Base}
use Rattle.cc_base.specs.Literals.{UnitLiteral}
use Rattle.cc_capture.specs.declared.var.Var.TheVariants.{Free}
use Rattle.cc_capture.specs.declared.var.Elem.TheVariants.{Var as Variable, Cap}
use Rattle.cc_capture.specs.Sets.{Set, Member, contains, empty, union}
use Rattle.cc_core.specs.Shapes.{Shape}
use Rattle.cc_core.specs.Contexts.{Context}
use Rattle.cc_core.specs.Captured.{variable_set}
use Rattle.cc_core.specs.Typing.{base_operated, HasNoCap}
use Rattle.cc_core.specs.Stores.{DeviceCell, Store, authority}
use Rattle.cc_device.specs.Devices.{Devices}
use Rattle.cc_device.specs.Events.{Event, Exited, Follows, operated, entered, ended, exited, FollowsAll, then_event, no_event}
use Rattle.cc_runs.specs.Reach.{SetReaches, captured_set}
use Rattle.cc_runs.specs.Runs as runs
use Rattle.cc_runs.specs.Runs.{State, Moves, move, Leads, run}
use Rattle.cc_runs.specs.SafeRuns.{scopes_of, IsListed, IsSafeMoment, RunsSafely}
use Rattle.cc_runs.specs.SoundRuns.{IsSoundState, IsSoundStart, start}
use Rattle.cc_runs.proofs.Authority.{authority_is_what_is_named}
use Rattle.cc_runs.proofs.ReachLemmas.{set_reaches-either, set_reaches-none, variable_reaches, declared_reach}
use Rattle.cc_runs.proofs.StoreTyping.{store_typed_from}
use Rattle.cc_runs.proofs.RunTheorems.{device_reached, literal_reaches_nothing, reached_cell, soundness_is_kept, sound_states_never_get_stuck, reach_never_grows, operated_devices_are_reached, scopes_follow_events, runs_are_steps, runs_never_stop, events_are_well_scoped}

-- The start reaches only devices of its authority.
module _ (store : Store) (context : Context) (entry unit count : ℕ) (shape : Shape) (set : Set) (devices : Devices)
    (begins : IsSoundStart store context entry unit count shape set devices) (device : ℕ) (base : Base) where
  named : HasNoCap set → SetReaches store (union (union (variable_set (Free entry)) (variable_set (Free unit))) empty) (DeviceCell device base) → Member (Variable (Free device)) set
  named no_cap reached =
      elim (set_reaches-either (union (variable_set (Free entry)) (variable_set (Free unit))) empty reached) as (λ _. Member (Variable (Free device)) set) [
        | inl r ↦ elim (set_reaches-either (variable_set (Free entry)) (variable_set (Free unit)) r) as (λ _. Member (Variable (Free device)) set) [
          | inl e ↦
              let by = declared_reach (store_typed_from begins.stored) entry shape set (DeviceCell device base) begins.declared no_cap (variable_reaches e) in
              let at = begins.names by.0 by.1 in
              let is : at.0 ≡ device = device_reached by.2 device at.0 base at.1 refl at.2 in
              let position : by.0 ≡ device = (begins.first by.0 at.0 at.1 at.2).0 ∙ is in
              subst (λ p. Member (Variable (Free p)) set) position by.1
          | inr u ↦ absurd (literal_reaches_nothing (variable_reaches u) UnitLiteral begins.applied)
        ]
        | inr none_reached ↦ absurd (set_reaches-none none_reached)
      ]

  by_cap : (b : Bool) → contains Cap set ≡ b → SetReaches store (union (union (variable_set (Free entry)) (variable_set (Free unit))) empty) (DeviceCell device base) → Member Cap set ⊎ Member (Variable (Free device)) set
  by_cap true cap reached = inl cap
  by_cap false without reached = inr (named (λ cap. let clash : true ≡ false = sym cap ∙ without in cc) reached)

  pub start_reaches : SetReaches store (captured_set (start store entry unit devices).configuration) (DeviceCell device base) → IsListed device (authority count set)
  start_reaches reached =
      let cell = reached_cell reached.2 in
      let below : device < count = (begins.first cell.0 device base cell.1).1 in
      (authority_is_what_is_named count set device).1 (below, by_cap (contains Cap set) refl reached)

-- An exit finds its scope.
scope_there : (before : List ℕ) (label : ℕ) (inner : List ℕ) (scopes : List ℕ) → before ≡ inner ++ label ∷ scopes → IsListed label before
scope_there before label inner scopes is = subst (IsListed label) (sym is) (inside inner)
  where
    inside : (front : List ℕ) → IsListed label (front ++ label ∷ scopes)
    inside [] = inl refl
    inside (x ∷ front) = inr (inside front)

pub exit_scope : {before after : List ℕ} {event : Event} → Follows before event after → (label : ℕ) → event ≡ Exited label → IsListed label before
exit_scope operated label is = cc
exit_scope entered label is = cc
exit_scope ended label is = cc
exit_scope (exited inner {before = before} {scopes = scopes} {label = k} at) label is =
    let same : k ≡ label = cc in
    scope_there before label inner scopes (at ∙ ap (λ n. inner ++ n ∷ scopes) same)

first_follows : {before after : List ℕ} {events : List Event} → FollowsAll before events after → (event : Event) → events ≡ event ∷ [] → (next : List ℕ) × Follows before event next
first_follows no_event event is = cc
first_follows (then_event {scopes = before} {next = next} {event = e} f rest) event is =
    let same : e ≡ event = cc in
    (next, subst (λ x. Follows before x next) same f)

-- A moment is safe where its state is sound and reaches only what is permitted.
pub sound_moment : (permitted : List ℕ) (now : State) → IsSoundState now
    → ((device : ℕ) (base : Base) → SetReaches now.configuration.store (captured_set now.configuration) (DeviceCell device base) → IsListed device permitted) → IsSafeMoment permitted now
sound_moment permitted now sound within = record {
  not_stuck = sound_states_never_get_stuck now now [] sound (0, runs.none);
  reached = λ later events leads device operation literal among. operated_devices_are_reached now later events sound leads device operation literal among;
  permits = λ later events leads device operation literal among. within device (base_operated operation) (operated_devices_are_reached now later events sound leads device operation literal among);
  exits = λ label next is.
      let first = first_follows (scopes_follow_events now next (Exited label ∷ []) sound (1, runs.more is runs.none)) (Exited label) refl in
      exit_scope first.1 label refl;
}

-- So runs from such a state are safe.
pub sound_run : (permitted : List ℕ) (state : State) → IsSoundState state → scopes_of state.configuration.stack ≡ []
    → ((device : ℕ) (base : Base) → SetReaches state.configuration.store (captured_set state.configuration) (DeviceCell device base) → IsListed device permitted)
    → (fuel : ℕ) → RunsSafely permitted state fuel
sound_run permitted state sound none within fuel = record {
  not_stopped = runs_never_stop fuel state sound;
  moments = λ now events leads.
      sound_moment permitted now (soundness_is_kept state now events sound leads)
      (λ device base reached. within device base (reach_never_grows state now events sound leads device base reached));
  authority = λ device operation literal among.
      within device (base_operated operation) (operated_devices_are_reached state (run fuel state).last (run fuel state).events sound (runs_are_steps fuel state) device operation literal among);
  well_scoped = events_are_well_scoped fuel state sound none;
}
