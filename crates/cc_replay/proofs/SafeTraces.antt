-- Runs from sound configurations are safe, whatever their devices are answered.
use Rattle.std.proofs.Common.{◌≡◌, ◌≢◌, ℕ, List, [], ◌∷◌, map, length, Option, Some, None, inl, inr, ◌⊎◌, refl, sym, ap, ◌∙◌, subst, true}
use Rattle.std.proofs.Math.Logic.{∥∥₁_elim}
use Rattle.std.specs.Prelude.{pos, IsTrue}
use Rattle.std.specs.List.{list_all}
use Rattle.cc_base.specs.declared.literal.Base.{Base}
use Rattle.cc_base.specs.declared.literal.Base.TheVariants as bases
use Rattle.cc_base.specs.declared.literal.Op.{Op}
use Rattle.cc_base.specs.Literals.{Literal}
use Rattle.cc_core.specs.Captured.{captured_variables}
use Rattle.cc_core.specs.Stores.{is_device_base}
use Rattle.cc_core.specs.Programs.{Entry}
use Rattle.cc_core.specs.Stores.{DeviceCell, authority}
use Rattle.cc_core.specs.Typing.{base_operated}
use Rattle.cc_device.specs.Devices.{DeviceState, Console, File, Counter, Devices, base_of_device}
use Rattle.cc_device.specs.Endings.{Shown}
use Rattle.cc_device.specs.Events.{Event, Operated, literal_shown, operated, Follows, FollowsAll, no_event, IsWellScoped}
use Rattle.cc_runs.specs.Answers.{shown}
use Rattle.cc_runs.specs.Links.{program_start}
use Rattle.cc_runs.specs.Machine.{Configuration, StepOutcome, Stuck, Final, Next, Ask, step}
use Rattle.cc_runs.specs.Reach.{SetReaches, captured_set, captured_by_stack}
use Rattle.cc_runs.specs.Runs.{State, with_event, IsStopped, end_with}
use Rattle.cc_runs.specs.Soundness.{IsSound, ReachesNoNewDevice, FitsScopes, OperatesNoDevice, IsSoundOutcome, IsSoundStep}
use Rattle.cc_runs.specs.SafeRuns.{scopes_of, IsListed, IsAmong}
use Rattle.cc_runs.proofs.Finality.{final_exactly_where_answered}
use Rattle.cc_runs.proofs.LinkedPrograms.{program_starts}
use Rattle.cc_runs.proofs.ReachLemmas.{set_reaches-left}
use Rattle.cc_runs.proofs.RunTheorems.{follow}
use Rattle.cc_runs.proofs.SafeRuns.{start_reaches}
use Rattle.cc_runs.proofs.ShownAnswers.{shown_from}
use Rattle.cc_runs.proofs.StepTheorem.{steps_are_sound}
use Rattle.cc_replay.specs.AnsweredRuns.{GoesTo, by_itself, by_answer, GoesOnTo, AnsweredRun, ending_after}
use Rattle.cc_replay.specs.AnsweredRuns as answered
use Rattle.cc_replay.specs.ReplayLaws.{IsSafeFrom, IsSafelyTraced, AgreeingTracesAreSafe, AgreeingTracesKeepTheAuthority}
use Rattle.cc_replay.specs.Replays.{ending_in, replay}
use Rattle.cc_replay.specs.declared.replaying.Replayed.TheVariants.{Agrees}
use Rattle.cc_replay.proofs.AgreeingReplays.{agreeing_lines_are_traces}
use Rattle.cc_words.proofs.Steps.{both}

-- what such a step keeps
record KeptByStep (before : Configuration) (event : Option Event) (after : Configuration) : Type 0 where
  sound : IsSound after
  devices : ReachesNoNewDevice before after
  scopes : FitsScopes (scopes_of before.stack) event (scopes_of after.stack)
  operated : (n : ℕ) (op : Op) (l : Literal) → event ≡ Some (Operated n op l) → SetReaches before.store (captured_set before) (DeviceCell n (base_operated op))

silent_operates_none : (event : Option Event) (n : ℕ) (op : Op) (l : Literal) → event ≡ Some (Operated n op l) → OperatesNoDevice event → ⊥
silent_operates_none event n op l e silent = subst OperatesNoDevice e silent

operated_parts : {n n' : ℕ} {op op' : Op} {l l' : Literal} → Some (Operated n op l) ≡ Some (Operated n' op' l') → (n ≡ n') × (op ≡ op')
operated_parts e = (cc, cc)

kept_by_itself : {before after : Configuration} {event : Option Event} → IsSoundStep before event after → KeptByStep before event after
kept_by_itself {event = event} went = record {
  sound = went.sound;
  devices = went.devices;
  scopes = went.scopes;
  operated = λ n op l e. absurd (silent_operates_none event n op l e went.operates_none);
}

sound_step : {before after : Configuration} {event : Option Event} → IsSound before → GoesTo before event after → KeptByStep before event after
sound_step {before = c} sound (by_itself is) = kept_by_itself (subst (IsSoundOutcome c) is (steps_are_sound c sound))
sound_step {before = c} sound (by_answer {device = n} {operation = op} {argument = argument} {resume = resume} answer is fits) =
    let question = subst (IsSoundOutcome c) is (steps_are_sound c sound) in
    let went = question.answered answer fits.0 in
    record {
      sound = went.sound;
      devices = went.devices;
      scopes = subst (λ z. Follows (scopes_of c.stack) (Operated n op (literal_shown argument answer)) z) went.scopes operated;
      operated = λ n' op' l e.
          let parts = operated_parts e in
          subst (λ k. SetReaches c.store (captured_set c) (DeviceCell k (base_operated op'))) parts.0
          (subst (λ o. SetReaches c.store (captured_set c) (DeviceCell n (base_operated o))) parts.1
          (set_reaches-left (captured_variables c.term) (captured_by_stack c.stack) question.reached));
    }

-- an event among those with one before them is that one, or among the others
pub first_or_later : (event : Option Event) (events : List Event) (one : Event) → IsAmong one (with_event event events) → (event ≡ Some one) ⊎ IsAmong one events
first_or_later None events one h = inr h
first_or_later (Some e) events one (inl is) = inl (ap (λ x. Some x) (sym is))
first_or_later (Some e) events one (inr later) = inr later

sound_after : {n : ℕ} {c last : Configuration} {events : List Event} → GoesOnTo n c events last → IsSound c → IsSound last
sound_after answered.none sound = sound
sound_after (answered.more goes later) sound = sound_after later (sound_step sound goes).sound

reached_after : {n : ℕ} {c last : Configuration} {events : List Event} → GoesOnTo n c events last → IsSound c → (device : ℕ) (op : Op) (l : Literal) → IsAmong (Operated device op l) events
    → SetReaches c.store (captured_set c) (DeviceCell device (base_operated op))
reached_after answered.none sound device op l h = absurd h
reached_after (answered.more {before = c} {event = event} {events = events} goes later) sound device op l h =
    let kept = sound_step sound goes in
    elim (first_or_later event events (Operated device op l) h) as (λ _. SetReaches c.store (captured_set c) (DeviceCell device (base_operated op))) [
      | inl now ↦ kept.operated device op l now
      | inr behind ↦ kept.devices device (base_operated op) (reached_after later kept.sound device op l behind)
    ]

scopes_after : {n : ℕ} {c last : Configuration} {events : List Event} → GoesOnTo n c events last → IsSound c → FollowsAll (scopes_of c.stack) events (scopes_of last.stack)
scopes_after answered.none sound = no_event
scopes_after (answered.more {before = c} {next = next} {last = last} {event = event} {events = events} goes later) sound =
    let kept = sound_step sound goes in
    follow (scopes_of c.stack) (scopes_of next.stack) (scopes_of last.stack) event events kept.scopes (scopes_after later kept.sound)

shows_something : (o : Option Shown) (shows : Shown) → o ≡ Some shows → end_with o ≡ IsStopped → ⊥
shows_something (Some s) shows is e = cc
shows_something None shows is e = cc

sound_ending : (c : Configuration) → IsSound c → (x : StepOutcome) → step c ≡ x → ending_in c x ≡ IsStopped → ⊥
sound_ending c sound Stuck is e = subst (IsSoundOutcome c) is (steps_are_sound c sound)
sound_ending c sound Final is e =
    let shows = shown_from c sound ((final_exactly_where_answered c).0 is).0 in shows_something (shown c) shows.0 shows.1 e
sound_ending c sound (Next event next) is e = cc
sound_ending c sound (Ask n op a resume) is e = cc

pub safe_from : (start : Configuration) → IsSound start → {fuel : ℕ} (it : AnsweredRun fuel start) → IsSafeFrom start it
safe_from start sound it = record {
  not_stopped = sound_ending it.last (sound_after it.went sound) (step it.last) refl;
  never_stuck = λ now steps events went stuck. subst (IsSoundOutcome now) stuck (steps_are_sound now (sound_after went sound));
  reached = reached_after it.went sound;
  scopes = scopes_after it.went sound;
}

pub agreeing_traces_are_safe : AgreeingTracesAreSafe
agreeing_traces_are_safe names fuel start lines sound agrees =
    let found = (agreeing_lines_are_traces names fuel start lines).0 agrees in
    (found.0, found.1, safe_from start sound found.0)

-- some devices of an entry's shapes
device_of : Base → DeviceState
device_of bases.Unit = Console []
device_of bases.Bool = Console []
device_of bases.Int = Console []
device_of bases.Str = Console []
device_of bases.Console = Console []
device_of bases.File = File [] 0
device_of bases.Counter = Counter (pos 0)

base_back : (b : Base) → is_device_base b ≡ true → base_of_device (device_of b) ≡ b
unfolding device_of
base_back bases.Unit is = cc
base_back bases.Bool is = cc
base_back bases.Int is = cc
base_back bases.Str is = cc
base_back bases.Console is = refl
base_back bases.File is = refl
base_back bases.Counter is = refl

shapes_back : (bs : List Base) → list_all is_device_base bs ≡ true → map base_of_device (map device_of bs) ≡ bs
shapes_back [] are = refl
shapes_back (b ∷ bs) are = let parts = both (is_device_base b) (list_all is_device_base bs) are in λ i. base_back b parts.0 i ∷ shapes_back bs parts.1 i

pub agreeing_traces_keep_the_authority : AgreeingTracesKeepTheAuthority
agreeing_traces_keep_the_authority entry is names fuel lines agrees =
    let devices = map device_of entry.devices in
    let begins = program_starts entry is devices (shapes_back entry.devices is.devices) in
    let found = agreeing_traces_are_safe names fuel (program_start entry) lines begins.sound.configuration agrees in
    let safe = found.2 in (
      found.0,
      found.1,
      λ device operation literal among.
          subst (IsListed device) (sym is.authority)
          (start_reaches _ _ _ _ _ _ _ _ begins device (base_operated operation) (safe.reached device operation literal among)),
      (scopes_of found.0.last.stack, safe.scopes),
      safe.not_stopped,
    )

-- the same, where it is only known that the start is sound
pub safely_traced : (names : List (List ℕ)) (fuel : ℕ) (start : Configuration) (lines : List (List ℕ)) → ∥ IsSound start ∥₁ → replay names fuel start lines ≡ Agrees
    → IsSafelyTraced names fuel start lines
safely_traced names fuel start lines sound agrees = ∥∥₁_elim sound (hlevel) (λ s. ∣ agreeing_traces_are_safe names fuel start lines s agrees ∣₁)
