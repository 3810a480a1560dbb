-- Runs on devices are replayed.
use Rattle.std.proofs.Common.{◌≡◌, ℕ, zero, suc, ◌<◌, ◌≤◌, true, List, [], ◌∷◌, Option, Some, None, inl, inr, ◌⊎◌, refl, sym, ap, ◌∙◌, subst, arith}
use Rattle.std.specs.Prelude.{slice_get, IsTrue}
use Rattle.std.specs.Option.{option_map}
use Rattle.cc_base.specs.Literals.{Literal, UnitLiteral, TruthLiteral, NumberLiteral, TextLiteral}
use Rattle.cc_base.specs.declared.literal.Base.TheVariants as bases
use Rattle.cc_base.specs.declared.literal.Op.{Op}
use Rattle.cc_base.specs.declared.literal.Op.TheVariants as operations
use Rattle.cc_core.specs.Typing.{base_of, base_answered, base_taken}
use Rattle.cc_device.specs.Devices.{DeviceState, Devices, Answer, answer_of, Reply, replying, reply_of, operate}
use Rattle.cc_device.specs.Events.{Event, Operated, literal_shown}
use Rattle.cc_runs.specs.Machine.{Configuration, StepOutcome, Stuck, Final, Next, Ask, is_taken, step}
use Rattle.cc_runs.specs.Runs.{State, Move, IsStuck, IsFinal, Moves, answered, closed, move, with_event, Ending, ending_of, LeadsIn, run}
use Rattle.cc_runs.specs.Runs as runs
use Rattle.cc_runs.specs.RunLaws.{GoesOn}
use Rattle.cc_runs.specs.SoundRuns.{IsSoundState}
use Rattle.cc_runs.specs.SafeRuns.{IsAmong}
use Rattle.cc_runs.proofs.DeviceTable.{devices_answer_what_suits}
use Rattle.cc_runs.proofs.RunSteps.{runs_are_exact}
use Rattle.cc_runs.proofs.RunTheorems.{soundness_is_kept, sound_states_never_get_stuck}
use Rattle.cc_replay.specs.AnsweredRuns.{fits_64_bits, IsAnswerOf, GoesTo, by_itself, by_answer, GoesOnTo, TakesNoStep, AnsweredRun, trace_lines, ending_after}
use Rattle.cc_replay.specs.AnsweredRuns as given
use Rattle.cc_replay.specs.ReplayLaws.{HasAnswersOf64Bits, lines_of_run, RunsAreReplayed}
use Rattle.cc_replay.specs.Replays.{ending_in}
use Rattle.cc_replay.proofs.AgreeingReplays.{agreeing_lines_are_traces}
use Rattle.cc_runs.proofs.Finality.{asks_rightly}

-- a reply is an answer of the operation's kind
replied_kind : (devices : Devices) (n : ℕ) (op : Op) (argument : Option Literal) (o : Option DeviceState) (reply : Reply) → reply_of devices n op argument o ≡ Some reply
    → base_of reply.literal ≡ base_answered op
replied_kind devices n op argument None reply is = cc
replied_kind devices n op argument (Some device) reply is = by_answered (answer_of device op argument) refl is
  where
    by_answered : (a : Option Answer) → answer_of device op argument ≡ a → option_map (replying devices n) a ≡ Some reply → base_of reply.literal ≡ base_answered op
    by_answered None at e = cc
    by_answered (Some answer) at e =
        let same : replying devices n answer ≡ reply = cc in
        sym (ap (λ r. base_of r.literal) same) ∙ ((devices_answer_what_suits device op argument).1 answer at).1

-- an answer has 64 bits where its event says so
shown_alone : (op : Op) (argument : Option Literal) → base_answered op ≡ bases.Int → is_taken (base_taken op) argument ≡ true → argument ≡ None
shown_alone operations.Print argument is taken = cc
shown_alone operations.Say argument is taken = cc
shown_alone operations.Read None is taken = refl
shown_alone operations.Read (Some a) is taken = cc
shown_alone operations.Write argument is taken = cc
shown_alone operations.Tick None is taken = refl
shown_alone operations.Tick (Some a) is taken = cc

answer_small : (n : ℕ) (op : Op) (argument : Option Literal) (answer : Literal) (others : List Event) → base_of answer ≡ base_answered op → is_taken (base_taken op) argument ≡ true
    → HasAnswersOf64Bits (Operated n op (literal_shown argument answer) ∷ others) → IsTrue (fits_64_bits answer)
answer_small n op argument UnitLiteral others of_kind taken small = refl
answer_small n op argument (TruthLiteral b) others of_kind taken small = refl
answer_small n op argument (NumberLiteral z) others of_kind taken small =
    let alone = shown_alone op argument (sym of_kind) taken in
    small n op z (sym of_kind) (inl (ap (λ a. Operated n op (literal_shown a (NumberLiteral z))) (sym alone)))
answer_small n op argument (TextLiteral t) others of_kind taken small = refl

module _ (state : State) (event : Option Event) (next : State) (others : List Event) where
  same_next : (e : Option Event) (m : State) → Moves e m ≡ Moves event next → (e ≡ event) × (m ≡ next)
  same_next e m is = (cc, cc)

  by_reply : (n : ℕ) (op : Op) (argument : Option Literal) (resume : Literal → Configuration) (o : Option Reply) → step state.configuration ≡ Ask n op argument resume
      → operate state.devices n op argument ≡ o → answered n op argument resume o ≡ Moves event next → HasAnswersOf64Bits (with_event event others)
      → GoesTo state.configuration event next.configuration
  by_reply n op argument resume None asks at is small = cc
  by_reply n op argument resume (Some reply) asks at is small =
      let parts = same_next (Some (Operated n op (literal_shown argument reply.literal))) (record { configuration = resume reply.literal; devices = reply.devices }) is in
      let of_kind = replied_kind state.devices n op argument (slice_get state.devices n) reply at in
      let taken = asks_rightly state.configuration n op argument resume asks in
      let fits = answer_small n op argument reply.literal others of_kind taken (subst (λ e. HasAnswersOf64Bits (with_event e others)) (sym parts.0) small) in
      subst (λ e. GoesTo state.configuration e next.configuration) parts.0
      (subst (λ m. GoesTo state.configuration (Some (Operated n op (literal_shown argument reply.literal))) m.configuration) parts.1
      (by_answer reply.literal asks (of_kind, fits)))

  by_move : (x : StepOutcome) → step state.configuration ≡ x → closed state.devices x ≡ Moves event next → HasAnswersOf64Bits (with_event event others)
      → GoesTo state.configuration event next.configuration
  by_move Stuck at is small = cc
  by_move Final at is small = cc
  by_move (Next e m) at is small =
      let parts = same_next e (record { configuration = m; devices = state.devices }) is in
      subst (λ e'. GoesTo state.configuration e' next.configuration) parts.0
      (subst (λ m'. GoesTo state.configuration e m'.configuration) parts.1 (by_itself at))
  by_move (Ask n op argument resume) at is small = by_reply n op argument resume (operate state.devices n op argument) at refl is small

later_small : (event : Option Event) (events : List Event) → HasAnswersOf64Bits (with_event event events) → HasAnswersOf64Bits events
later_small None events small = small
later_small (Some e) events small = λ n op z is among. small n op z is (inr among)

-- moves on devices are steps that are answered
pub moves_are_answered : {n : ℕ} {a b : State} {es : List Event} → LeadsIn n a es b → HasAnswersOf64Bits es → GoesOnTo n a.configuration es b.configuration
moves_are_answered runs.none small = given.none
moves_are_answered (runs.more {state = a} {next = m} {event = e} {events = es} is later) small =
    given.more (by_move a e m es (step a.configuration) refl is small) (moves_are_answered later (later_small e es small))

-- a state that does not go on takes no step, and it ends as its configuration does
module _ (state : State) (never_stuck : move state ≡ IsStuck → ⊥) where
  ends_so : (x : StepOutcome) → step state.configuration ≡ x → ending_of state (closed state.devices x) ≡ ending_in state.configuration x
  ends_so Stuck at = refl
  ends_so Final at = refl
  ends_so (Next e m) at = refl
  ends_so (Ask n op argument resume) at = by_answered (operate state.devices n op argument) refl
    where
      by_answered : (o : Option Reply) → operate state.devices n op argument ≡ o → ending_of state (answered n op argument resume o) ≡ ending_in state.configuration (Ask n op argument resume)
      by_answered (Some reply) is = refl
      by_answered None is = absurd (never_stuck (ap (closed state.devices) at ∙ ap (answered n op argument resume) is))

  takes_none : (x : StepOutcome) → step state.configuration ≡ x → (GoesOn state → ⊥) → TakesNoStep x
  takes_none Stuck at over = tt
  takes_none Final at over = tt
  takes_none (Next e m) at over = over (e, record { configuration = m; devices = state.devices }, ap (closed state.devices) at)
  takes_none (Ask n op argument resume) at over = by_answered (operate state.devices n op argument) refl
    where
      by_answered : (o : Option Reply) → operate state.devices n op argument ≡ o → ⊥
      by_answered (Some reply) is =
          over (Some (Operated n op (literal_shown argument reply.literal)), record { configuration = resume reply.literal; devices = reply.devices }, ap (closed state.devices) at ∙ ap (answered n op argument resume) is)
      by_answered None is = never_stuck (ap (closed state.devices) at ∙ ap (answered n op argument resume) is)

all_or_fewer : (n fuel : ℕ) → n ≤ fuel → (n ≡ fuel) ⊎ (n < fuel)
all_or_fewer n zero below = inl (omega arith)
all_or_fewer zero (suc fuel) below = inr (omega arith)
all_or_fewer (suc n) (suc fuel) below = next (all_or_fewer n fuel (omega arith))
  where
    next : (n ≡ fuel) ⊎ (n < fuel) → (suc n ≡ suc fuel) ⊎ (suc n < suc fuel)
    next (inl same) = inl (ap suc same)
    next (inr less) = inr (omega arith)

pub runs_are_replayed : RunsAreReplayed
runs_are_replayed names fuel start sound small =
    let it = run fuel start in
    let exact = (runs_are_exact fuel start).0 in
    let last_sound = soundness_is_kept start it.last it.events sound (it.steps, exact.led) in
    let never = sound_states_never_get_stuck start it.last it.events sound (it.steps, exact.led) in
    let over : (it.steps ≡ fuel) ⊎ TakesNoStep (step it.last.configuration) =
    elim (all_or_fewer it.steps fuel exact.within_fuel) as (λ _. (it.steps ≡ fuel) ⊎ TakesNoStep (step it.last.configuration)) [
      | inl all ↦ inl all
      | inr fewer ↦ inr (takes_none it.last never (step it.last.configuration) refl (exact.fewer fewer))
    ] in
    let answered_run : AnsweredRun fuel start.configuration = record {
      events = it.events;
      steps = it.steps;
      last = it.last.configuration;
      went = moves_are_answered exact.led small;
      within = exact.within_fuel;
      ended = over;
    } in
    (agreeing_lines_are_traces names fuel start.configuration (lines_of_run names it)).1 answered_run
    (ap (λ e. trace_lines names it.events e it.steps) (exact.ending ∙ ends_so it.last never (step it.last.configuration) refl))
