-- A replay goes line by line.
use Rattle.std.proofs.Common.{◌≡◌, ◌≢◌, ℕ, zero, suc, ◌+◌, ◌-◌, ◌<◌, ◌≤◌, true, false, ◌==◌, List, [], ◌∷◌, ◌++◌, length, Option, Some, None, refl, sym, ap, ◌∙◌, subst, arith}
use Rattle.std.proofs.Math.Logic.{∥∥₁_elim}
use Rattle.std.specs.Str.{bytes_eq}
use Rattle.std.proofs.lemmas.Bool.Decides.{Decides-eqb}
use Rattle.cc_base.specs.Literals.{Literal}
use Rattle.cc_base.specs.declared.literal.Op.{Op}
use Rattle.cc_core.specs.Typing.{base_of, base_answered}
use Rattle.cc_device.specs.Endings.{End, Done, OutOfFuel}
use Rattle.cc_device.specs.Events.{Event, Operated, literal_shown}
use Rattle.cc_machine.specs.Answering.{GoesOnWith}
use Rattle.cc_machine.specs.Reports.{HasEnd}
use Rattle.cc_machine.specs.Standing.{StandsFor, StandsSoundly}
use Rattle.cc_runs.specs.Machine.{Configuration, StepOutcome, Stuck, Final, Next, Ask, step}
use Rattle.cc_runs.specs.Answers.{shown}
use Rattle.cc_runs.specs.Runs.{Ending, Ends, end_with}
use Rattle.cc_runs.specs.Soundness.{IsSoundOutcome}
use Rattle.cc_runs.proofs.Erasure.{erased_outcome, term-erased}
use Rattle.cc_runs.proofs.StepTheorem.{steps_are_sound}
use Rattle.cc_replay.specs.Comparing.{behind_lines}
use Rattle.cc_replay.specs.Replays.{Comparison, behind_line, no_line, others_decide, text_next, answer_in, answered_next, operation_next, ending_in, end_next, replay_on, replay_from}
use Rattle.cc_replay.specs.declared.replaying.Replayed.{Replayed}
use Rattle.cc_replay.specs.declared.replaying.Replayed.TheVariants.{Agrees, Differs}
use Rattle.cc_runs.specs.Alike.{erased_configuration}
use Rattle.cc_replay.proofs.AlikeReplays.{replay-erased}
use Rattle.cc_replay.proofs.AnswersInLines.{answer_fits}
use Rattle.cc_replay.specs.RunTexts.{event_text, end_text}
use Rattle.cc_machine.specs.Asking.{Question, question_in, IsAnswerTo}
use Rattle.cc_words.specs.Lines.{Line, lines_of, next_line}
use Rattle.cc_words.proofs.LineLists.{next_line-first}

-- a text that is not empty begins with its first line
pub first_line : (lines line others : List ℕ) → (line, others) ≡ next_line lines → (length lines == 0) ≡ false → lines_of lines ≡ line ∷ lines_of others
first_line [] line others is some = cc
first_line (b ∷ bs) line others is some = (next_line-first b bs).lines ∙ ap (λ it. it.0 ∷ lines_of it.1) (sym is)

-- the next line is the text, or is another
module _ (lines line others text bytes : List ℕ) (is : (line, others) ≡ next_line lines) (some : (length lines == 0) ≡ false) (same : bytes ≡ text) (rest : Comparison) where
  pub text_stands : bytes_eq line bytes ≡ true → text_next text rest (lines_of lines) ≡ behind_line (rest (lines_of others))
  text_stands met =
      ap (text_next text rest) (first_line lines line others is some)
      ∙ ap (λ t. others_decide t rest (lines_of others)) (ap (bytes_eq line) (sym same) ∙ met)

  pub text_differs : bytes_eq line bytes ≡ false → text_next text rest (lines_of lines) ≡ Differs 1
  text_differs other =
      ap (text_next text rest) (first_line lines line others is some)
      ∙ ap (λ t. others_decide t rest (lines_of others)) (ap (bytes_eq line) (sym same) ∙ other)

-- a text that was written into an empty one
pub written : (read new old text : List ℕ) → read ≡ new → new ≡ old ++ text → old ≡ [] → read ≡ text
written read new old text is put none = is ∙ put ∙ ap (λ t. t ++ text) none

-- where a device is asked, the answer of the line is gone on from
module _ (names : List (List ℕ)) (held : Configuration) (q : Question) (asks : Some q ≡ question_in (step held)) (line : Line) where
  pub answer_suits : (l : Literal) → answer_in names q.device q.operation line ≡ Some l → IsAnswerTo (question_in (step held)) l
  answer_suits l is = subst (λ o. IsAnswerTo o l) asks (answer_fits names q.device q.operation line l is).0

  pub answered_on : (l : Literal) (event : Event) (held' : Configuration) (lines : List ℕ) (others : List Line) → answer_in names q.device q.operation line ≡ Some l → GoesOnWith l held event held'
      → lines_of lines ≡ line ∷ others → (steps : ℕ) (rest : Configuration → Comparison)
      → replay_on names steps rest held (step held) (lines_of lines) ≡ text_next (event_text names event) (rest held') (lines_of lines)
  answered_on l event held' lines others is goes first steps rest =
      let same : Some q ≡ Some (record { device = goes.device; operation = goes.operation; argument = goes.argument }) = asks ∙ ap question_in goes.asks in
      let one : q ≡ record { device = goes.device; operation = goes.operation; argument = goes.argument } = cc in
      let found : answer_in names goes.device goes.operation line ≡ Some l = sym (ap (λ p. answer_in names p.device p.operation line) one) ∙ is in
      let told_by = sym goes.tells in
      ap (λ ls. replay_on names steps rest held (step held) ls) first
      ∙ ap (λ x. replay_on names steps rest held x (line ∷ others)) goes.asks
      ∙ ap (λ o. answered_next names goes.device goes.operation goes.argument (λ a. rest (goes.resume a)) o (line ∷ others)) found
      ∙ (λ i. text_next (event_text names (told_by i)) (rest (goes.resumes i)) (line ∷ others))
      ∙ ap (text_next (event_text names event) (rest held')) (sym first)

  pub unanswered : (x : StepOutcome) → Some q ≡ question_in x → (others : List Line) → answer_in names q.device q.operation line ≡ None → (steps : ℕ) (rest : Configuration → Comparison)
      → replay_on names steps rest held x (line ∷ others) ≡ Differs 1
  unanswered Stuck asked others is steps rest = cc
  unanswered Final asked others is steps rest = cc
  unanswered (Next event next) asked others is steps rest = cc
  unanswered (Ask n op a resume) asked others is steps rest =
      let one : q ≡ record { device = n; operation = op; argument = a } = cc in
      let found : answer_in names n op line ≡ None = sym (ap (λ p. answer_in names p.device p.operation line) one) ∙ is in
      ap (λ o. answered_next names n op a (λ answer. rest (resume answer)) o (line ∷ others)) found

-- the end of what a machine holds
pub stuck_nowhere : (held : Configuration) → ∥ StandsSoundly held ∥₁ → step held ≡ Stuck → ⊥
stuck_nowhere held sound is = ∥∥₁_elim sound (hlevel) (λ s. by_outcome s.0 (step s.0) refl (steps_are_sound s.0 s.1) (sym (step_held s.0 s.2) ∙ is))
  where
    step_held : (c : Configuration) → StandsFor held c → step held ≡ erased_outcome (step c)
    step_held c stands = sym (ap step stands) ∙ term-erased c.store c.stack c.labels_made c.term

    by_outcome : (c : Configuration) (x : StepOutcome) → step c ≡ x → IsSoundOutcome c (step c) → erased_outcome (step c) ≡ Stuck → ⊥
    by_outcome c Stuck at sound e = subst (IsSoundOutcome c) at sound
    by_outcome c Final at sound e = let clash : Final ≡ Stuck = sym (ap erased_outcome at) ∙ e in cc
    by_outcome c (Next event next) at sound e = let clash : erased_outcome (Next event next) ≡ Stuck = sym (ap erased_outcome at) ∙ e in cc
    by_outcome c (Ask n op a resume) at sound e = let clash : erased_outcome (Ask n op a resume) ≡ Stuck = sym (ap erased_outcome at) ∙ e in cc

unfinished : (held : Configuration) (x : StepOutcome) → (x ≡ Stuck → ⊥) → (x ≡ Final → ⊥) → ending_in held x ≡ Ends OutOfFuel
unfinished held Stuck stuck final = absurd (stuck refl)
unfinished held Final stuck final = absurd (final refl)
unfinished held (Next event next) stuck final = refl
unfinished held (Ask n op a resume) stuck final = refl

pub ending_held : (held : Configuration) (end : End) → HasEnd held end → ∥ StandsSoundly held ∥₁ → ending_in held (step held) ≡ Ends end
ending_held held (Done shows) is sound = ap (ending_in held) is.0 ∙ ap end_with is.1
ending_held held OutOfFuel is sound = unfinished held (step held) (stuck_nowhere held sound) is

-- the end's line, and what stands behind it
no_line-empty : (others : List ℕ) → (length others == 0) ≡ true → no_line (lines_of others) ≡ Agrees
no_line-empty [] none = refl
no_line-empty (b ∷ bs) none = let clash : length (b ∷ bs) ≡ 0 = (Decides-eqb (length (b ∷ bs)) 0).0 none in absurd (omega arith)

no_line-some : (others : List ℕ) → (length others == 0) ≡ false → no_line (lines_of others) ≡ Differs 1
no_line-some [] some = cc
no_line-some (b ∷ bs) some = ap no_line (next_line-first b bs).lines

module _ (names : List (List ℕ)) (steps met : ℕ) (held : Configuration) (end : End) (lines read : List ℕ)
    (is : HasEnd held end) (sound : ∥ StandsSoundly held ∥₁) (text : read ≡ end_text names (Ends end) steps) where
  end_is : end_next names steps held (step held) (lines_of lines) ≡ text_next read no_line (lines_of lines)
  end_is =
      ap (λ e. text_next (end_text names e steps) no_line (lines_of lines)) (ending_held held end is sound)
      ∙ ap (λ t. text_next t no_line (lines_of lines)) (sym text)

  pub end_differs : text_next read no_line (lines_of lines) ≡ Differs 1 → Differs (met + 1) ≡ behind_lines met (end_next names steps held (step held) (lines_of lines))
  end_differs e = sym (ap (behind_lines met) (end_is ∙ e))

  pub end_agrees : (others : List ℕ) → text_next read no_line (lines_of lines) ≡ behind_line (no_line (lines_of others)) → (length others == 0) ≡ true
      → Agrees ≡ behind_lines met (end_next names steps held (step held) (lines_of lines))
  end_agrees others e none = sym (ap (behind_lines met) (end_is ∙ e ∙ ap behind_line (no_line-empty others none)))

  pub more_stands : (others : List ℕ) (line : ℕ) → text_next read no_line (lines_of lines) ≡ behind_line (no_line (lines_of others)) → (length others == 0) ≡ false → line ≡ met + 1 + 1
      → Differs line ≡ behind_lines met (end_next names steps held (step held) (lines_of lines))
  more_stands others line e some at =
      let count : line ≡ met + 2 = omega (arith, at) in
      ap (λ k. Differs k) count ∙ sym (ap (behind_lines met) (end_is ∙ e ∙ ap behind_line (no_line-some others some)))

-- Where a replay stands: so many steps were taken and so many lines met, and what comes of the rest comes of the whole.
pub record StandsAt (names : List (List ℕ)) (fuel : ℕ) (start : Configuration) (lines : List ℕ) (steps met : ℕ) (held : Configuration) (rest : List ℕ) : Type 0 where
  pub comes : replay_from names 0 fuel start (lines_of lines) ≡ behind_lines met (replay_from names steps (fuel - steps) held (lines_of rest))
  pub within : steps ≤ fuel
  pub fewer : met ≤ steps

one_line_more : (met : ℕ) (r : Replayed) → behind_lines met (behind_line r) ≡ behind_lines (met + 1) r
one_line_more met Agrees = refl
one_line_more met (Differs k) = let same : met + suc k ≡ met + 1 + k = omega arith in ap (λ n. Differs n) same

-- a step further
module _ (names : List (List ℕ)) (fuel : ℕ) (start : Configuration) (lines : List ℕ) (steps met : ℕ) (held held' : Configuration) (rest : List ℕ)
    (stands : StandsAt names fuel start lines steps met held rest) (less : steps < fuel) where
  abbrev pub later : Comparison
  later = replay_from names (steps + 1) (fuel - (steps + 1)) held'

  comes_by : (r : Replayed) → replay_on names steps (replay_from names (steps + 1) (fuel - (steps + 1))) held (step held) (lines_of rest) ≡ r
      → replay_from names 0 fuel start (lines_of lines) ≡ behind_lines met r
  comes_by r told =
      let left : fuel - steps ≡ suc (fuel - (steps + 1)) = omega arith in
      let next : suc steps ≡ steps + 1 = omega arith in
      stands.comes
      ∙ ap (λ n. behind_lines met (replay_from names steps n held (lines_of rest))) left
      ∙ ap (λ k. behind_lines met (replay_on names steps (replay_from names k (fuel - (steps + 1))) held (step held) (lines_of rest))) next
      ∙ ap (behind_lines met) told

  pub stands_silent : replay_on names steps (replay_from names (steps + 1) (fuel - (steps + 1))) held (step held) (lines_of rest) ≡ later (lines_of rest)
      → StandsAt names fuel start lines (steps + 1) met held' rest
  stands_silent told = let few = stands.fewer in record { comes = comes_by (later (lines_of rest)) told; within = omega arith; fewer = omega arith }

  pub stands_told : (others : List ℕ) → replay_on names steps (replay_from names (steps + 1) (fuel - (steps + 1))) held (step held) (lines_of rest) ≡ behind_line (later (lines_of others))
      → StandsAt names fuel start lines (steps + 1) (met + 1) held' others
  stands_told others told =
      let few = stands.fewer in
      record {
        comes = comes_by (behind_line (later (lines_of others))) told ∙ one_line_more met (later (lines_of others));
        within = omega arith;
        fewer = omega arith;
      }

  pub differs_here : replay_on names steps (replay_from names (steps + 1) (fuel - (steps + 1))) held (step held) (lines_of rest) ≡ Differs 1
      → replay_from names 0 fuel start (lines_of lines) ≡ Differs (met + 1)
  differs_here told = comes_by (Differs 1) told

-- at the end
module _ (names : List (List ℕ)) (fuel : ℕ) (start : Configuration) (lines : List ℕ) (steps met : ℕ) (held : Configuration) (rest : List ℕ)
    (stands : StandsAt names fuel start lines steps met held rest) where
  final_stays : (n : ℕ) → step held ≡ Final → replay_from names steps n held (lines_of rest) ≡ end_next names steps held (step held) (lines_of rest)
  final_stays zero is = refl
  final_stays (suc n) is =
      ap (λ x. replay_on names steps (replay_from names (suc steps) n) held x (lines_of rest)) is ∙ sym (ap (λ x. end_next names steps held x (lines_of rest)) is)

  spent : fuel ≤ steps → replay_from names steps (fuel - steps) held (lines_of rest) ≡ end_next names steps held (step held) (lines_of rest)
  spent none = let zero_left : fuel - steps ≡ 0 = omega arith in ap (λ n. replay_from names steps n held (lines_of rest)) zero_left

  by_outcome : (x : StepOutcome) → step held ≡ x → ((step held ≡ Final → ⊥) → fuel ≤ steps) → replay_from names steps (fuel - steps) held (lines_of rest) ≡ end_next names steps held (step held) (lines_of rest)
  by_outcome Stuck is over = spent (over (λ e. let clash : Stuck ≡ Final = sym is ∙ e in cc))
  by_outcome Final is over = final_stays (fuel - steps) is
  by_outcome (Next event next) is over = spent (over (λ e. let clash : Next event next ≡ Final = sym is ∙ e in cc))
  by_outcome (Ask n op a resume) is over = spent (over (λ e. let clash : Ask n op a resume ≡ Final = sym is ∙ e in cc))

  pub ends_so : ((step held ≡ Final → ⊥) → fuel ≤ steps) → replay_from names 0 fuel start (lines_of lines) ≡ behind_lines met (end_next names steps held (step held) (lines_of rest))
  ends_so over = stands.comes ∙ ap (behind_lines met) (by_outcome (step held) refl over)

-- the replay of a program is that of what the machine holds at its start
pub start_held : (names : List (List ℕ)) (fuel : ℕ) (held start : Configuration) (lines : List Line) → held ≡ erased_configuration start
    → replay_from names 0 fuel held lines ≡ replay_from names 0 fuel start lines
start_held names fuel held start lines is = ap (λ c. replay_from names 0 fuel c lines) is ∙ replay-erased names 0 fuel start lines
