-- A step depends only on the devices that are reached, and changes no other.
use Rattle.std.proofs.Common.{◌≡◌, ℕ, List, ◌∷◌, Option, Some, None, inl, inr, refl, sym, ap, ◌∙◌, subst}
use Rattle.std.specs.Prelude.{nat_eq, slice_get, slice_set}
use Rattle.std.specs.Option.{option_map}
use Rattle.std.proofs.lemmas.Bool.{cases_eq, cond-true, cond-false, eq-eqb, ne_eqb}
use Rattle.cc_base.specs.declared.literal.Op.{Op}
use Rattle.cc_base.specs.Literals.{Literal}
use Rattle.cc_core.specs.Typing.{base_operated}
use Rattle.cc_device.specs.Devices.{DeviceState, Answer, answer_of, Devices, Reply, replying, reply_of, operate}
use Rattle.cc_device.specs.Events.{Event, Operated, Entered, Ended, Exited, literal_shown}
use Rattle.cc_device.proofs.Operations.{Answered, answered_from, set_at, set_elsewhere}
use Rattle.cc_runs.specs.Machine.{Configuration, StepOutcome, Stuck, Final, Next, Ask, step}
use Rattle.cc_runs.specs.Reach.{captured_by_stack}
use Rattle.cc_core.specs.Captured.{captured_variables}
use Rattle.cc_runs.specs.Runs.{State, Move, IsStuck, IsFinal, Moves, answered, closed, move}
use Rattle.cc_runs.specs.Soundness.{IsSound, IsSoundOutcome, OperatesNoDevice}
use Rattle.cc_runs.specs.SoundRuns.{IsSoundState, IsKeptSound, IsSoundMove}
use Rattle.cc_runs.specs.Interleavings.{state_of, on_device, History, then_operated}
use Rattle.cc_runs.specs.InterleavingLaws.{ReachesDevice, ComesToTheSame, StepsDependOnWhatTheyReach, StepsChangeWhatTheyReach}
use Rattle.cc_runs.proofs.ReachLemmas.{set_reaches-left}
use Rattle.cc_runs.proofs.StepTheorem.{steps_are_sound}
use Rattle.cc_runs.proofs.DeviceTable.{moves_touch_one_device}
use Rattle.cc_runs.proofs.RunTheorems.{moves_are_sound}

-- what a move from a sound state keeps
pub kept_from : (state : State) → IsSoundState state → (event : Option Event) (next : State) → move state ≡ Moves event next → IsKeptSound state event next
kept_from state sound event next is = subst (IsSoundMove state) is (moves_are_sound state sound)

pub steps_change_what_they_reach : StepsChangeWhatTheyReach
steps_change_what_they_reach state next event sound is number not =
    moves_touch_one_device state next event is number (λ op l same. not (base_operated op, (kept_from state sound event next is).operated number op l same))

-- Devices that agree at the numbers of a predicate.
module _ (p : ℕ → Type 0) where
  abbrev pub Agree : Devices → Devices → Type 0
  Agree left right = (n : ℕ) → p n → slice_get left n ≡ slice_get right n

  -- the same comes of a step on both, and they agree again
  abbrev pub SameMove : Move → Move → Type 0
  SameMove IsStuck IsStuck = Unit {0}
  SameMove IsFinal IsFinal = Unit {0}
  SameMove (Moves e s) (Moves e' s') = (e ≡ e') × (s.configuration ≡ s'.configuration) × Agree s.devices s'.devices
  SameMove _ _ = ⊥

  changed_alike : (left right : Devices) (n : ℕ) (old new : DeviceState) → Agree left right → slice_get left n ≡ Some old → slice_get right n ≡ Some old → Agree (slice_set left n new) (slice_set right n new)
  changed_alike left right n old new agree at_left at_right m pm =
      elim (cases_eq m n) as (λ _. slice_get (slice_set left n new) m ≡ slice_get (slice_set right n new) m) [
        | inl same ↦
            ap (slice_get (slice_set left n new)) same ∙ set_at left n old new at_left
            ∙ sym (ap (slice_get (slice_set right n new)) same ∙ set_at right n old new at_right)
        | inr other ↦ set_elsewhere left n m new other ∙ agree m pm ∙ sym (set_elsewhere right n m new other)
      ]

  same_answer : (left right : Devices) (n : ℕ) (op : Op) (a : Option Literal) (resume : Literal → Configuration) (d : DeviceState) → Agree left right → slice_get left n ≡ Some d → slice_get right n ≡ Some d
      → (o : Option Answer) → SameMove (answered n op a resume (option_map (replying left n) o)) (answered n op a resume (option_map (replying right n) o))
  same_answer left right n op a resume d agree at_left at_right None = tt
  same_answer left right n op a resume d agree at_left at_right (Some answer) = (refl, refl, changed_alike left right n d answer.device agree at_left at_right)

  same_reply : (left right : Devices) (n : ℕ) (op : Op) (a : Option Literal) (resume : Literal → Configuration) → Agree left right → (o : Option DeviceState) → slice_get left n ≡ o → slice_get right n ≡ o
      → SameMove (answered n op a resume (reply_of left n op a o)) (answered n op a resume (reply_of right n op a o))
  same_reply left right n op a resume agree None at_left at_right = tt
  same_reply left right n op a resume agree (Some d) at_left at_right = same_answer left right n op a resume d agree at_left at_right (answer_of d op a)

  same_outcome : (left right : Devices) (c : Configuration) (x : StepOutcome) → IsSoundOutcome c x → ((n : ℕ) → ReachesDevice c n → p n) → Agree left right → SameMove (closed left x) (closed right x)
  same_outcome left right c Stuck sound within agree = absurd sound
  same_outcome left right c Final sound within agree = tt
  same_outcome left right c (Next e n) sound within agree = (refl, refl, agree)
  same_outcome left right c (Ask n op a resume) asked within agree =
      let pn : p n = within n (base_operated op, set_reaches-left (captured_variables c.term) (captured_by_stack c.stack) asked.reached) in
      subst (λ o. SameMove (answered n op a resume (reply_of left n op a (slice_get left n))) (answered n op a resume (reply_of right n op a o))) (agree n pn)
      (same_reply left right n op a resume agree (slice_get left n) refl (sym (agree n pn)))

  pub same_move : (left right : Devices) (c : Configuration) → IsSound c → ((n : ℕ) → ReachesDevice c n → p n) → Agree left right → SameMove (move (state_of left c)) (move (state_of right c))
  same_move left right c sound within agree = same_outcome left right c (step c) (steps_are_sound c sound) within agree

comes_to_the_same : (c : Configuration) (m m' : Move) → SameMove (ReachesDevice c) m m' → ComesToTheSame c m m'
comes_to_the_same c IsStuck IsStuck same = same
comes_to_the_same c IsStuck IsFinal same = same
comes_to_the_same c IsStuck (Moves e' s') same = same
comes_to_the_same c IsFinal IsStuck same = same
comes_to_the_same c IsFinal IsFinal same = same
comes_to_the_same c IsFinal (Moves e' s') same = same
comes_to_the_same c (Moves e s) IsStuck same = same
comes_to_the_same c (Moves e s) IsFinal same = same
comes_to_the_same c (Moves e s) (Moves e' s') same = same

pub steps_depend_on_what_they_reach : StepsDependOnWhatTheyReach
steps_depend_on_what_they_reach c left right sound agree =
    comes_to_the_same c (move (state_of left c)) (move (state_of right c)) (same_move (ReachesDevice c) left right c sound (λ n r. r) agree)

-- What a step does to the history of a device.
abbrev pub with_on : ℕ → Option Event → List Event → List Event
with_on number None events = events
with_on number (Some event) events = on_device number event events

abbrev pub Continues : ℕ → DeviceState → Option Event → Devices → Type 0
Continues number device event devices =
    (device' : DeviceState) × (slice_get devices number ≡ Some device')
    × ((events : List Event) (last : DeviceState) → History number device' events last → History number device (with_on number event events) last)

module _ (number : ℕ) (device : DeviceState) where
  stays : (devices : Devices) → slice_get devices number ≡ Some device → (event : Option Event) → OperatesNoDevice event → Continues number device event devices
  stays devices there None none = (device, there, λ events last h. h)
  stays devices there (Some (Operated n op l)) none = absurd none
  stays devices there (Some (Entered k)) none = (device, there, λ events last h. h)
  stays devices there (Some (Ended k)) none = (device, there, λ events last h. h)
  stays devices there (Some (Exited k)) none = (device, there, λ events last h. h)

  same_device : {d d' : DeviceState} → Some d ≡ Some d' → d ≡ d'
  same_device e = cc

  operated_by : (devices : Devices) → slice_get devices number ≡ Some device → (n : ℕ) (op : Op) (a : Option Literal) (reply : Reply) → Answered devices n op a reply
      → Continues number device (Some (Operated n op (literal_shown a reply.literal))) reply.devices
  operated_by devices there n op a reply was =
      subst (λ (r : Reply). Continues number device (Some (Operated n op (literal_shown a r.literal))) r.devices) (sym was.is)
      (elim (cases_eq n number) as (λ _. Continues number device (Some (Operated n op (literal_shown a was.answer.literal))) (slice_set devices n was.answer.device)) [
        | inl same ↦
            let is : was.device ≡ device = same_device (sym was.there ∙ ap (slice_get devices) same ∙ there) in (
              was.answer.device,
              ap (slice_get (slice_set devices n was.answer.device)) (sym same) ∙ set_at devices n was.device was.answer.device was.there,
              λ events last h.
                  subst (λ (es : List Event). History number device es last)
                  (sym (cond-true (nat_eq n number) (Operated n op (literal_shown a was.answer.literal) ∷ events) events (eq-eqb n number same) ∙ ap (λ m. Operated m op (literal_shown a was.answer.literal) ∷ events) same))
                  (then_operated a was.answer (sym (ap (λ x. answer_of x op a) is) ∙ was.answers) h),
            )
        | inr other ↦ (
          device,
          set_elsewhere devices n number was.answer.device (λ e. other (sym e)) ∙ there,
          λ events last h.
              subst (λ (es : List Event). History number device es last)
              (sym (cond-false (nat_eq n number) (Operated n op (literal_shown a was.answer.literal) ∷ events) events (ne_eqb n number other))) h,
        )
      ])

  move_parts : (event event' : Option Event) (next next' : State) → Moves event next ≡ Moves event' next' → (event ≡ event') × (next ≡ next')
  move_parts event event' next next' is = (cc, cc)

  arrive : (event event' : Option Event) (next next' : State) → Moves event next ≡ Moves event' next' → Continues number device event next.devices → Continues number device event' next'.devices
  arrive event event' next next' is c =
      let parts = move_parts event event' next next' is in
      subst (λ s. Continues number device event' s.devices) parts.1 (subst (λ e. Continues number device e next.devices) parts.0 c)

  replied : (devices : Devices) → slice_get devices number ≡ Some device → (n : ℕ) (op : Op) (a : Option Literal) (resume : Literal → Configuration) (o : Option Reply) → operate devices n op a ≡ o
      → (event : Option Event) (next : State) → answered n op a resume o ≡ Moves event next → Continues number device event next.devices
  replied devices there n op a resume None is event next moves = cc
  replied devices there n op a resume (Some reply) is event next moves =
      arrive (Some (Operated n op (literal_shown a reply.literal))) event (record { configuration = resume reply.literal; devices = reply.devices }) next moves
      (operated_by devices there n op a reply (answered_from devices n op a reply is))

  continued : (devices : Devices) → slice_get devices number ≡ Some device → (c : Configuration) (x : StepOutcome) → IsSoundOutcome c x → (event : Option Event) (next : State) → closed devices x ≡ Moves event next
      → Continues number device event next.devices
  continued devices there c Stuck sound event next moves = absurd sound
  continued devices there c Final sound event next moves = cc
  continued devices there c (Next e n) sound event next moves =
      arrive e event (record { configuration = n; devices = devices }) next moves (stays devices there e sound.operates_none)
  continued devices there c (Ask n op a resume) asked event next moves = replied devices there n op a resume (operate devices n op a) refl event next moves

  pub move_continues : (state : State) → IsSoundState state → slice_get state.devices number ≡ Some device → (event : Option Event) (next : State) → move state ≡ Moves event next
      → Continues number device event next.devices
  move_continues state sound there event next is =
      continued state.devices there state.configuration (step state.configuration) (steps_are_sound state.configuration sound.configuration) event next is
