-- Live runs are runs whose devices were answered by the host, and their text is what is told of these.
use Rattle.std.proofs.Common.{◌≡◌, ℕ, zero, suc, ◌+◌, ◌≤◌, ◌<◌, Bool, true, false, List, [], ◌∷◌, ◌++◌, Option, Some, None, inl, inr, ◌⊎◌, refl, sym, ap, ◌∙◌, subst, arith, append_assoc, append-nil, flat_map, map, option_map}
use Rattle.std.proofs.lemmas.Grind.{flat_map-append}
use Rattle.std.specs.Prelude.{codes, ℤ, IsTrue}
use Rattle.std.specs.Str.{bytes_eq}
use Rattle.cc_base.specs.Literals.{Literal, UnitLiteral, NumberLiteral}
use Rattle.cc_base.specs.declared.literal.Base.TheVariants as bases
use Rattle.cc_base.specs.declared.literal.Op.{Op}
use Rattle.cc_base.specs.declared.literal.Op.TheVariants as operations
use Rattle.cc_core.specs.Typing.{base_of}
use Rattle.cc_device.specs.Events.{Event, Operated, literal_shown}
use Rattle.cc_live.proofs.LiveTexts.{told_again, told_as_traced}
use Rattle.cc_live.proofs.QuietSteps.{quiet_step}
use Rattle.cc_live.specs.LiveLaws.{told_lines, Stands, at_its_end, waiting, stopped, broken, LiveRunsAreAnswered, CameToItsEnd, LiveRunsAreReplayed, LiveTextsAreLines}
use Rattle.cc_live.specs.LiveRuns.{Standing, Live, Course, told_line, asked_text, told_text, stopped_text, unit_of, answer_of, behind_text, behind_event, ended_live, answered_live, said_live, heard_live, live_on, live_from, live}
use Rattle.cc_replay.proofs.AgreeingReplays.{agreeing_lines_are_traces}
use Rattle.cc_replay.specs.AnsweredRuns.{fits_64_bits, IsAnswerOf, GoesTo, by_itself, GoesOnTo, TakesNoStep, AnsweredRun, trace_lines}
use Rattle.cc_replay.specs.AnsweredRuns as answered
use Rattle.cc_replay.specs.Replays.{ending_in}
use Rattle.cc_replay.specs.RunTexts.{event_text, end_text}
use Rattle.cc_runs.proofs.Finality.{asks_rightly}
use Rattle.cc_runs.specs.Machine.{Configuration, StepOutcome, Stuck, Final, Next, Ask, step}
use Rattle.cc_runs.specs.Runs.{with_event}
use Rattle.cc_words.proofs.Numbers.{signed_of_gives}
use Rattle.cc_words.proofs.Steps.{passed}
use Rattle.cc_words.specs.Lines.{Line}
use Rattle.cc_words.specs.Words.{signed_of}

-- what a line of the host answers is an answer of the operation
unit_fits : (line : Line) (answer : Literal) → unit_of line ≡ Some answer → (base_of answer ≡ bases.Unit) × IsTrue (fits_64_bits answer)
unit_fits line answer e =
    subst (λ l. (base_of l ≡ bases.Unit) × IsTrue (fits_64_bits l)) (passed (bytes_eq line (codes "ok")) UnitLiteral answer e).1 (refl, refl)

number_given : (line : Line) (r : Option ℤ) (answer : Literal) → signed_of line ≡ r → option_map (λ n. NumberLiteral n) r ≡ Some answer
    → (base_of answer ≡ bases.Int) × IsTrue (fits_64_bits answer)
number_given line None answer is e = cc
number_given line (Some n) answer is e =
    let same : NumberLiteral n ≡ answer = cc in
    subst (λ l. (base_of l ≡ bases.Int) × IsTrue (fits_64_bits l)) same (refl, (signed_of_gives line n is).0)

pub answer_fits : (op : Op) (line : Line) (answer : Literal) → answer_of op line ≡ Some answer → IsAnswerOf op answer
answer_fits operations.Print line answer e = unit_fits line answer e
answer_fits operations.Say line answer e = unit_fits line answer e
answer_fits operations.Read line answer e = number_given line (signed_of line) answer refl e
answer_fits operations.Write line answer e = unit_fits line answer e
answer_fits operations.Tick line answer e = number_given line (signed_of line) answer refl e

-- the events of a run with one before them
told_first : (names : List (List ℕ)) (event : Event) (events : List Event) (text last : List ℕ) → text ≡ told_lines names events ++ last
    → told_line (told_text names event) ++ text ≡ told_lines names (event ∷ events) ++ last
told_first names event events text last is =
    ap (λ t. told_line (told_text names event) ++ t) is ∙ sym (append_assoc (told_line (told_text names event)) (told_lines names events) last)

module _ (names : List (List ℕ)) (total : ℕ) where
  -- so it is on from a configuration that so many steps led to
  pub record AnsweredFrom (before fuel : ℕ) (c : Configuration) (it : Live) : Type 0 where
    pub steps : ℕ
    pub events : List Event
    pub now : Configuration
    pub went : GoesOnTo steps c events now
    pub within : steps ≤ fuel
    pub last : List ℕ
    pub text : it.text ≡ told_lines names events ++ last
    pub stands : Stands names total (before + steps) now last it.standing

  -- no step is taken from here on
  stays : (before fuel : ℕ) (c : Configuration) (it : Live) (last : ℕ → List ℕ) → it.text ≡ last before → Stands names total (before + 0) c (last (before + 0)) it.standing
      → AnsweredFrom before fuel c it
  stays before fuel c it last text stands =
      let same : before ≡ before + 0 = omega arith in
      record {
        steps = 0;
        events = [];
        now = c;
        went = answered.none;
        within = omega arith;
        last = last (before + 0);
        text = text ∙ ap last same;
        stands = stands;
      }

  ends_here : (before fuel : ℕ) (c : Configuration) (lines : List Line) → ((before ≡ total) ⊎ TakesNoStep (step c))
      → AnsweredFrom before fuel c (ended_live names before (ending_in c (step c)) lines)
  ends_here before fuel c lines over =
      stays before fuel c (ended_live names before (ending_in c (step c)) lines) (λ n. told_line (end_text names (ending_in c (step c)) n)) refl (at_its_end (counted over))
    where
      counted : (before ≡ total) ⊎ TakesNoStep (step c) → (before + 0 ≡ total) ⊎ TakesNoStep (step c)
      counted (inl all) = inl (omega (arith, all))
      counted (inr none) = inr none

  -- a step that an answer led on
  goes_first : (before fuel : ℕ) (c next : Configuration) (event : Option Event) (front : List ℕ) (later : Live) → GoesTo c event next
      → ((events : List Event) (last : List ℕ) → later.text ≡ told_lines names events ++ last → front ++ later.text ≡ told_lines names (with_event event events) ++ last)
      → AnsweredFrom (suc before) fuel next later → AnsweredFrom before (suc fuel) c (behind_text front later)
  goes_first before fuel c next event front later goes tells from =
      let count : suc before + from.steps ≡ before + suc from.steps = omega arith in
      record {
        steps = suc from.steps;
        events = with_event event from.events;
        now = from.now;
        went = answered.more goes from.went;
        within = omega (arith, from.within);
        last = from.last;
        text = tells from.events from.last from.text;
        stands = subst (λ n. Stands names total n from.now from.last later.standing) count from.stands;
      }

  module _ (before fuel : ℕ) (c : Configuration) (sum : before + suc fuel ≡ total)
      (rest : (next : Configuration) (lines : List Line) → AnsweredFrom (suc before) fuel next (live_from names (suc before) fuel next lines)) where
    by_event : (event : Option Event) (next : Configuration) (lines : List Line) → step c ≡ Next event next
        → AnsweredFrom before (suc fuel) c (behind_event names event (live_from names (suc before) fuel next lines))
    by_event None next lines is =
        goes_first before fuel c next None [] (live_from names (suc before) fuel next lines) (by_itself is) (λ events last text. text) (rest next lines)
    by_event (Some event) next lines is =
        let told = told_as_traced names event (quiet_step c (Some event) next is) in
        let later = live_from names (suc before) fuel next lines in
        goes_first before fuel c next (Some event) (told_line (event_text names event)) later (by_itself is)
        (λ events last text. ap (λ t. told_line t ++ later.text) (sym told) ∙ told_first names event events later.text last text)
        (rest next lines)

    module _ (n : ℕ) (op : Op) (a : Option Literal) (resume : Literal → Configuration) (is : step c ≡ Ask n op a resume) where
      abbrev asked : List ℕ
      asked = told_line (asked_text names n op a)

      abbrev resumed : Literal → Course
      resumed answer = live_from names (suc before) fuel (resume answer)

      steps_left : before + 0 < total
      steps_left = omega (arith, sum)

      by_answer : (o : Option Literal) (lines : List Line) → ((answer : Literal) → o ≡ Some answer → IsAnswerOf op answer)
          → AnsweredFrom before (suc fuel) c (behind_text asked (answered_live resumed o lines))
      by_answer None lines fits =
          stays before (suc fuel) c (behind_text asked (answered_live resumed None lines)) (λ k. asked) (append-nil asked) (broken is steps_left)
      by_answer (Some answer) lines fits =
          let event = Operated n op (literal_shown a answer) in
          let told = told_again names n op a answer (asks_rightly c n op a resume is) in
          let later = resumed answer lines in
          goes_first before fuel c (resume answer) (Some event) asked later (answered.by_answer answer is (fits answer refl))
          (λ events last text. ap (λ t. told_line t ++ later.text) (sym told) ∙ told_first names event events later.text last text)
          (rest (resume answer) lines)

      by_said : (stops : Bool) (o : Option Literal) (lines : List Line) → ((answer : Literal) → o ≡ Some answer → IsAnswerOf op answer)
          → AnsweredFrom before (suc fuel) c (behind_text asked (said_live before stops resumed o lines))
      by_said true o lines fits =
          stays before (suc fuel) c (behind_text asked (said_live before true resumed o lines)) (λ k. asked ++ told_line (stopped_text k)) refl (stopped is steps_left)
      by_said false o lines fits = by_answer o lines fits

      by_lines : (lines : List Line) → AnsweredFrom before (suc fuel) c (behind_text asked (heard_live before op resumed lines))
      by_lines [] =
          stays before (suc fuel) c (behind_text asked (heard_live before op resumed [])) (λ k. asked) (append-nil asked) (waiting is steps_left)
      by_lines (line ∷ others) = by_said (bytes_eq line (codes "stop")) (answer_of op line) others (answer_fits op line)

    by_outcome : (x : StepOutcome) (lines : List Line) → step c ≡ x
        → AnsweredFrom before (suc fuel) c (live_on names before (live_from names (suc before) fuel) c x lines)
    by_outcome Stuck lines is =
        subst (λ x. AnsweredFrom before (suc fuel) c (ended_live names before (ending_in c x) lines)) is
        (ends_here before (suc fuel) c lines (inr (subst TakesNoStep (sym is) tt)))
    by_outcome Final lines is =
        subst (λ x. AnsweredFrom before (suc fuel) c (ended_live names before (ending_in c x) lines)) is
        (ends_here before (suc fuel) c lines (inr (subst TakesNoStep (sym is) tt)))
    by_outcome (Next event next) lines is = by_event event next lines is
    by_outcome (Ask n op a resume) lines is = by_lines n op a resume is lines

  answered_from : (fuel before : ℕ) (c : Configuration) (lines : List Line) → before + fuel ≡ total → AnsweredFrom before fuel c (live_from names before fuel c lines)
  answered_from zero before c lines sum = ends_here before zero c lines (inl (omega (arith, sum)))
  answered_from (suc fuel) before c lines sum =
      by_outcome before fuel c sum (λ next ls. answered_from fuel (suc before) next ls (omega (arith, sum))) (step c) lines refl

pub live_runs_are_answered : LiveRunsAreAnswered
live_runs_are_answered names fuel start lines =
    let from = answered_from names fuel fuel 0 start lines (omega arith) in
    let same : 0 + from.steps ≡ from.steps = omega arith in
    record {
      steps = from.steps;
      events = from.events;
      now = from.now;
      went = from.went;
      within = from.within;
      last = from.last;
      text = from.text;
      stands = subst (λ n. Stands names fuel n from.now from.last (live names fuel start lines).standing) same from.stands;
    }

-- at its end it is a run that is answered from outside
over_so : {names : List (List ℕ)} {fuel steps : ℕ} {now : Configuration} {last : List ℕ} {standing : Standing} (it : Stands names fuel steps now last standing) → CameToItsEnd it
    → (steps ≡ fuel) ⊎ TakesNoStep (step now)
over_so (at_its_end over) came = over
over_so (waiting asks left) came = absurd came
over_so (stopped asks left) came = absurd came
over_so (broken asks left) came = absurd came

pub live_runs_are_replayed : LiveRunsAreReplayed
live_runs_are_replayed names fuel start lines it came =
    let run : AnsweredRun fuel start =
    record { events = it.events; steps = it.steps; last = it.now; went = it.went; within = it.within; ended = over_so it.stands came } in
    (agreeing_lines_are_traces names fuel start (trace_lines names it.events (ending_in it.now (step it.now)) it.steps)).1 run refl

-- the texts of the lines
last_lines : {names : List (List ℕ)} {fuel steps : ℕ} {now : Configuration} {last : List ℕ} {standing : Standing} → Stands names fuel steps now last standing
    → (texts : List (List ℕ)) × (last ≡ flat_map told_line texts)
last_lines {names = names} {steps = steps} {now = now} (at_its_end over) =
    (end_text names (ending_in now (step now)) steps ∷ [], sym (append-nil (told_line (end_text names (ending_in now (step now)) steps))))
last_lines {names = names} (waiting {device = n} {operation = op} {argument = a} asks left) =
    (asked_text names n op a ∷ [], sym (append-nil (told_line (asked_text names n op a))))
last_lines {names = names} {steps = steps} (stopped {device = n} {operation = op} {argument = a} asks left) = (
  asked_text names n op a ∷ stopped_text steps ∷ [],
  ap (λ t. told_line (asked_text names n op a) ++ t) (sym (append-nil (told_line (stopped_text steps)))),
)
last_lines {names = names} (broken {device = n} {operation = op} {argument = a} asks left) =
    (asked_text names n op a ∷ [], sym (append-nil (told_line (asked_text names n op a))))

told_are_lines : (names : List (List ℕ)) (events : List Event) → told_lines names events ≡ flat_map told_line (map (told_text names) events)
told_are_lines names [] = refl
told_are_lines names (event ∷ events) = ap (λ t. told_line (told_text names event) ++ t) (told_are_lines names events)

pub live_texts_are_lines : LiveTextsAreLines
live_texts_are_lines names fuel start lines =
    let it = live_runs_are_answered names fuel start lines in
    let behind = last_lines it.stands in
    let texts = map (told_text names) it.events in (
      texts ++ behind.0,
      it.text ∙ ap (λ t. t ++ it.last) (told_are_lines names it.events) ∙ ap (λ t. flat_map told_line texts ++ t) behind.1
          ∙ sym (flat_map-append told_line texts behind.0),
    )
