-- Replays agree with the traces of runs that are answered from outside, and with nothing else.
use Rattle.std.proofs.Common.{◌≡◌, ℕ, zero, suc, ◌+◌, ◌≤◌, List, [], ◌∷◌, ◌++◌, map, Option, Some, None, inl, inr, ◌⊎◌, refl, sym, ap, ◌∙◌, subst, arith, add-zero}
use Rattle.cc_base.specs.Literals.{Literal}
use Rattle.cc_base.specs.declared.literal.Op.{Op}
use Rattle.cc_core.specs.Typing.{base_of}
use Rattle.cc_device.specs.Events.{Event, Operated, literal_shown}
use Rattle.cc_runs.specs.Machine.{Configuration, StepOutcome, Stuck, Final, Next, Ask, step}
use Rattle.cc_runs.specs.Runs.{Ending, with_event}
use Rattle.cc_replay.specs.AnsweredRuns.{IsAnswerOf, GoesTo, by_itself, by_answer, GoesOnTo, TakesNoStep, AnsweredRun, trace_lines, ending_after, trace_of}
use Rattle.cc_replay.specs.AnsweredRuns as answered
use Rattle.cc_replay.specs.ReplayLaws.{AgreeingLinesAreTraces}
use Rattle.cc_replay.specs.Replays.{Comparison, event_next, answer_in, answered_next, operation_next, ending_in, end_next, no_line, replay_on, replay_from}
use Rattle.cc_replay.specs.declared.replaying.Replayed.TheVariants.{Agrees}
use Rattle.cc_replay.proofs.AnswersInLines.{answer_fits, answer_back}
use Rattle.cc_replay.proofs.Comparisons.{text_agrees, nothing_agrees, text_is_met, BeginsWith}
use Rattle.cc_runs.proofs.Finality.{asks_rightly}
use Rattle.cc_replay.specs.RunTexts.{event_text, end_text}
use Rattle.cc_words.specs.Lines.{Line}

-- the line of an event, if there is one, before others
abbrev pub told : List (List ℕ) → Option Event → List Line → List Line
told names None lines = lines
told names (Some event) lines = event_text names event ∷ lines

pub told_first : (names : List (List ℕ)) (event : Option Event) (events : List Event) (ending : Ending) (steps : ℕ)
    → trace_lines names (with_event event events) ending steps ≡ told names event (trace_lines names events ending steps)
told_first names None events ending steps = refl
told_first names (Some event) events ending steps = refl

module _ (names : List (List ℕ)) where
  -- the lines are the trace of a run from here on, where so many steps were taken before
  pub record TraceFrom (steps fuel : ℕ) (c : Configuration) (lines : List Line) : Type 0 where
    pub it : AnsweredRun fuel c
    pub is : lines ≡ trace_lines names it.events (ending_after it) (steps + it.steps)

  ends_here : (steps fuel : ℕ) (c : Configuration) (lines : List Line) → ((0 ≡ fuel) ⊎ TakesNoStep (step c))
      → end_next names steps c (step c) lines ≡ Agrees → TraceFrom steps fuel c lines
  ends_here steps fuel c lines over e =
      let found = text_agrees (end_text names (ending_in c (step c)) steps) _ lines e in
      let none_behind = nothing_agrees found.others found.agree in
      let same : steps ≡ steps + 0 = omega arith in
      record {
        it = record { events = []; steps = 0; last = c; went = answered.none; within = omega arith; ended = over };
        is = found.is ∙ ap (λ ls. end_text names (ending_in c (step c)) steps ∷ ls) none_behind ∙ ap (λ n. end_text names (ending_in c (step c)) n ∷ []) same;
      }

  goes_first : (steps fuel : ℕ) (c next : Configuration) (event : Option Event) (others : List Line) → GoesTo c event next → TraceFrom (suc steps) fuel next others
      → TraceFrom steps (suc fuel) c (told names event others)
  goes_first steps fuel c next event others goes later =
      let count : suc steps + later.it.steps ≡ steps + suc later.it.steps = omega arith in
      record {
        it = record {
          events = with_event event later.it.events;
          steps = suc later.it.steps;
          last = later.it.last;
          went = answered.more goes later.it.went;
          within = omega (arith, later.it.within);
          ended = further later.it.ended;
        };
        is =
            ap (told names event) (later.is ∙ ap (trace_lines names later.it.events (ending_after later.it)) count)
            ∙ sym (told_first names event later.it.events (ending_after later.it) (steps + suc later.it.steps));
      }
    where
      further : (later.it.steps ≡ fuel) ⊎ TakesNoStep (step later.it.last) → (suc later.it.steps ≡ suc fuel) ⊎ TakesNoStep (step later.it.last)
      further (inl all) = inl (ap suc all)
      further (inr over) = inr over

  module _ (steps fuel : ℕ) (c : Configuration) (rest : (next : Configuration) (lines : List Line) → replay_from names (suc steps) fuel next lines ≡ Agrees → TraceFrom (suc steps) fuel next lines) where
    by_event : (event : Option Event) (next : Configuration) (lines : List Line) → GoesTo c event next
        → event_next names event (replay_from names (suc steps) fuel next) lines ≡ Agrees → TraceFrom steps (suc fuel) c lines
    by_event None next lines goes e = goes_first steps fuel c next None lines goes (rest next lines e)
    by_event (Some event) next lines goes e =
        let found = text_agrees (event_text names event) _ lines e in
        subst (TraceFrom steps (suc fuel) c) (sym found.is) (goes_first steps fuel c next (Some event) found.others goes (rest next found.others found.agree))

    by_line : (n : ℕ) (op : Op) (argument : Option Literal) (resume : Literal → Configuration) (o : Option Literal) (lines : List Line) → step c ≡ Ask n op argument resume
        → ((answer : Literal) → o ≡ Some answer → IsAnswerOf op answer)
        → answered_next names n op argument (λ answer. replay_from names (suc steps) fuel (resume answer)) o lines ≡ Agrees → TraceFrom steps (suc fuel) c lines
    by_line n op argument resume None lines asks fits e = cc
    by_line n op argument resume (Some answer) lines asks fits e =
        by_event (Some (Operated n op (literal_shown argument answer))) (resume answer) lines (by_answer answer asks (fits answer refl)) e

    by_operation : (n : ℕ) (op : Op) (argument : Option Literal) (resume : Literal → Configuration) (lines : List Line) → step c ≡ Ask n op argument resume
        → operation_next names n op argument (λ answer. replay_from names (suc steps) fuel (resume answer)) lines ≡ Agrees → TraceFrom steps (suc fuel) c lines
    by_operation n op argument resume [] asks e = cc
    by_operation n op argument resume (line ∷ others) asks e =
        by_line n op argument resume (answer_in names n op line) (line ∷ others) asks (λ answer is. answer_fits names n op line answer is) e

    by_outcome : (x : StepOutcome) (lines : List Line) → step c ≡ x → replay_on names steps (replay_from names (suc steps) fuel) c x lines ≡ Agrees → TraceFrom steps (suc fuel) c lines
    by_outcome Stuck lines is e = ends_here steps (suc fuel) c lines (inr (subst TakesNoStep (sym is) tt)) (ap (λ x. end_next names steps c x lines) is ∙ e)
    by_outcome Final lines is e = ends_here steps (suc fuel) c lines (inr (subst TakesNoStep (sym is) tt)) (ap (λ x. end_next names steps c x lines) is ∙ e)
    by_outcome (Next event next) lines is e = by_event event next lines (by_itself is) e
    by_outcome (Ask n op argument resume) lines is e = by_operation n op argument resume lines is e

  agrees_from : (steps fuel : ℕ) (c : Configuration) (lines : List Line) → replay_from names steps fuel c lines ≡ Agrees → TraceFrom steps fuel c lines
  agrees_from steps zero c lines e = ends_here steps zero c lines (inl refl) e
  agrees_from steps (suc fuel) c lines e = by_outcome steps fuel c (agrees_from (suc steps) fuel) (step c) lines refl e

  -- the other way round
  over_here : (steps : ℕ) (c : Configuration) (x : StepOutcome) (rest : Configuration → Comparison) → TakesNoStep x
      → replay_on names steps rest c x (end_text names (ending_in c x) steps ∷ []) ≡ Agrees
  over_here steps c Stuck rest over = text_is_met (end_text names (ending_in c Stuck) steps) no_line [] refl
  over_here steps c Final rest over = text_is_met (end_text names (ending_in c Final) steps) no_line [] refl
  over_here steps c (Next event next) rest over = absurd over
  over_here steps c (Ask n op a resume) rest over = absurd over

  stays : (steps fuel : ℕ) (c : Configuration) → ((0 ≡ fuel) ⊎ TakesNoStep (step c)) → replay_from names steps fuel c (end_text names (ending_in c (step c)) steps ∷ []) ≡ Agrees
  stays steps zero c over = text_is_met (end_text names (ending_in c (step c)) steps) no_line [] refl
  stays steps (suc fuel) c (inl none) = cc
  stays steps (suc fuel) c (inr over) = over_here steps c (step c) (replay_from names (suc steps) fuel) over

  steps_on : (steps fuel : ℕ) (c next : Configuration) (event : Option Event) (others : List Line) → GoesTo c event next → replay_from names (suc steps) fuel next others ≡ Agrees
      → replay_from names steps (suc fuel) c (told names event others) ≡ Agrees
  steps_on steps fuel c next None others (by_itself is) e = ap (λ x. replay_on names steps (replay_from names (suc steps) fuel) c x others) is ∙ e
  steps_on steps fuel c next (Some event) others (by_itself is) e =
      ap (λ x. replay_on names steps (replay_from names (suc steps) fuel) c x (told names (Some event) others)) is
      ∙ text_is_met (event_text names event) (replay_from names (suc steps) fuel next) others e
  steps_on steps fuel c next event others (by_answer {device = n} {operation = op} {argument = argument} {resume = resume} answer is fits) e =
      let line = event_text names (Operated n op (literal_shown argument answer)) in
      ap (λ x. replay_on names steps (replay_from names (suc steps) fuel) c x (line ∷ others)) is
      ∙ ap (λ o. answered_next names n op argument (λ a. replay_from names (suc steps) fuel (resume a)) o (line ∷ others))
      (answer_back names n op argument answer fits (asks_rightly c n op argument resume is))
      ∙ text_is_met line (replay_from names (suc steps) fuel (resume answer)) others e

  agrees_with : {n : ℕ} {c last : Configuration} {events : List Event} → GoesOnTo n c events last → (steps fuel : ℕ) → n ≤ fuel → ((n ≡ fuel) ⊎ TakesNoStep (step last))
      → replay_from names steps fuel c (trace_lines names events (ending_in last (step last)) (steps + n)) ≡ Agrees
  agrees_with (answered.none {configuration = c}) steps fuel within over =
      let same : steps + 0 ≡ steps = omega arith in
      ap (λ k. replay_from names steps fuel c (end_text names (ending_in c (step c)) k ∷ [])) same ∙ stays steps fuel c over
  agrees_with (answered.more {steps = n} {before = c} {next = next} {last = last} {event = event} {events = events} goes later) steps fuel within over =
      by_fuel fuel within over (λ f. agrees_with later (suc steps) f)
    where
      one_less : {f : ℕ} → (suc n ≡ suc f) ⊎ TakesNoStep (step last) → (n ≡ f) ⊎ TakesNoStep (step last)
      one_less (inl all) = inl (omega (arith, all))
      one_less (inr stops) = inr stops

      by_fuel : (f : ℕ) → suc n ≤ f → ((suc n ≡ f) ⊎ TakesNoStep (step last))
          → ((f' : ℕ) → n ≤ f' → ((n ≡ f') ⊎ TakesNoStep (step last)) → replay_from names (suc steps) f' next (trace_lines names events (ending_in last (step last)) (suc steps + n)) ≡ Agrees)
          → replay_from names steps f c (trace_lines names (with_event event events) (ending_in last (step last)) (steps + suc n)) ≡ Agrees
      by_fuel zero below ends rest = absurd (omega arith)
      by_fuel (suc f) below ends rest =
          let count : suc steps + n ≡ steps + suc n = omega arith in
          ap (replay_from names steps (suc f) c) (told_first names event events (ending_in last (step last)) (steps + suc n))
          ∙ steps_on steps f c next event (trace_lines names events (ending_in last (step last)) (steps + suc n)) goes
          (subst (λ k. replay_from names (suc steps) f next (trace_lines names events (ending_in last (step last)) k) ≡ Agrees) count
          (rest f (omega arith) (one_less ends)))

zero_before : (n : ℕ) → 0 + n ≡ n
zero_before n = omega arith

pub agreeing_lines_are_traces : AgreeingLinesAreTraces
agreeing_lines_are_traces names fuel start lines = (
  λ e. let found = agrees_from names 0 fuel start lines e in
      (found.it, found.is ∙ ap (trace_lines names found.it.events (ending_after found.it)) (zero_before found.it.steps)),
  λ it is.
      ap (replay_from names 0 fuel start) (is ∙ sym (ap (trace_lines names it.events (ending_after it)) (zero_before it.steps)))
      ∙ agrees_with names it.went 0 fuel it.within it.ended,
)
