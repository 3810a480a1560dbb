-- What comes of a step of a live run.
use Rattle.std.proofs.Common.{◌≡◌, ℕ, true, false, List, [], ◌∷◌, ◌++◌, Option, Some, None, sym, ap, subst, ◌∙◌, append-nil}
use Rattle.std.specs.Prelude.{codes}
use Rattle.std.specs.Str.{bytes_eq}
use Rattle.cc_base.specs.Literals.{Literal}
use Rattle.cc_device.specs.Events.{Event}
use Rattle.cc_live.proofs.AnsweredLives.{answer_fits}
use Rattle.cc_live.specs.LiveEnds.{BeginsText}
use Rattle.cc_live.specs.LiveRuns.{Over, Waits, Breaks, Course, told_line, stopped_text, answer_of, behind_text, behind_event, answered_live, said_live, heard_live, live_on}
use Rattle.cc_live.specs.LiveTurns.{turn_of, question_line}
use Rattle.cc_machine.specs.Answering.{GoesOnWith}
use Rattle.cc_machine.specs.Asking.{Question, question_in, IsAnswerTo}
use Rattle.cc_runs.specs.Machine.{Configuration, StepOutcome, Stuck, Final, Next, Ask, step}
use Rattle.cc_words.specs.Lines.{Line}

-- the outcome asks the question
pub asks_so : (x : StepOutcome) (q : Question) → Some q ≡ question_in x → (resume : Literal → Configuration) × (x ≡ Ask q.device q.operation q.argument resume)
asks_so Stuck q asked = cc
asks_so Final q asked = cc
asks_so (Next event next) q asked = cc
asks_so (Ask n op a resume) q asked =
    let same : q ≡ record { device = n; operation = op; argument = a } = cc in
    (resume, ap (λ p. Ask p.device p.operation p.argument resume) (sym same))

module _ (names : List (List ℕ)) (steps : ℕ) (held : Configuration) (q : Question) (asked : Some q ≡ question_in (step held)) where
  abbrev resumed : (Configuration → Course) → Literal → Course
  resumed later answer = later ((asks_so (step held) q asked).0 answer)

  pub turned : (later : Configuration → Course) (lines : List Line)
      → turn_of names steps held later lines ≡ behind_text (question_line names q) (heard_live steps q.operation (resumed later) lines)
  turned later lines = ap (λ x. live_on names steps later held x lines) (asks_so (step held) q asked).1

  -- without a line it waits
  pub turn_waits : (later : Configuration → Course) → turn_of names steps held later [] ≡ record { text = question_line names q; standing = Waits }
  turn_waits later = turned later [] ∙ (λ i. record { text = append-nil (question_line names q) i; standing = Waits })

  pub turn_begins : (later : Configuration → Course) (lines : List Line) → BeginsText (question_line names q) (turn_of names steps held later lines)
  turn_begins later lines = ((heard_live steps q.operation (resumed later) lines).text, ap (λ it. it.text) (turned later lines))

  module _ (line : Line) where
    pub turn_stops : bytes_eq line (codes "stop") ≡ true → (later : Configuration → Course) (rest : List Line)
        → turn_of names steps held later (line ∷ rest) ≡ record { text = question_line names q ++ told_line (stopped_text steps); standing = Over true rest }
    turn_stops is later rest =
        turned later (line ∷ rest)
        ∙ ap (λ t. behind_text (question_line names q) (said_live steps t (resumed later) (answer_of q.operation line) rest)) is

    pub turn_breaks : bytes_eq line (codes "stop") ≡ false → answer_of q.operation line ≡ None → (later : Configuration → Course) (rest : List Line)
        → turn_of names steps held later (line ∷ rest) ≡ record { text = question_line names q; standing = Breaks rest }
    turn_breaks is none later rest =
        turned later (line ∷ rest)
        ∙ ap (λ t. behind_text (question_line names q) (said_live steps t (resumed later) (answer_of q.operation line) rest)) is
        ∙ ap (λ o. behind_text (question_line names q) (answered_live (resumed later) o rest)) none
        ∙ (λ i. record { text = append-nil (question_line names q) i; standing = Breaks rest })

    pub answer_suits : (l : Literal) → answer_of q.operation line ≡ Some l → IsAnswerTo (question_in (step held)) l
    answer_suits l is = subst (λ o. IsAnswerTo o l) asked (answer_fits q.operation line l is).0

    pub turn_goes_on : (l : Literal) (event : Event) (held' : Configuration) → bytes_eq line (codes "stop") ≡ false → answer_of q.operation line ≡ Some l → GoesOnWith l held event held'
        → (later : Configuration → Course) (rest : List Line) → turn_of names steps held later (line ∷ rest) ≡ behind_text (question_line names q) (later held' rest)
    turn_goes_on l event held' is answers goes later rest =
        let same : Some q ≡ Some (record { device = goes.device; operation = goes.operation; argument = goes.argument }) = asked ∙ ap question_in goes.asks in
        let one : q ≡ record { device = goes.device; operation = goes.operation; argument = goes.argument } = cc in
        let found : answer_of goes.operation line ≡ Some l = sym (ap (λ p. answer_of p.operation line) one) ∙ answers in
        let on : Literal → Course = λ answer. later (goes.resume answer) in
        ap (λ x. live_on names steps later held x (line ∷ rest)) goes.asks
        ∙ ap (λ p. behind_text (question_line names p) (said_live steps (bytes_eq line (codes "stop")) on (answer_of goes.operation line) rest)) (sym one)
        ∙ ap (λ t. behind_text (question_line names q) (said_live steps t on (answer_of goes.operation line) rest)) is
        ∙ ap (λ o. behind_text (question_line names q) (answered_live on o rest)) found
        ∙ ap (λ c. behind_text (question_line names q) (later c rest)) goes.resumes

-- a step without a question
pub turn_advances : (names : List (List ℕ)) (held held' : Configuration) (event : Option Event) → step held ≡ Next event held' → (steps : ℕ) (later : Configuration → Course) (rest : List Line)
    → turn_of names steps held later rest ≡ behind_event names event (later held' rest)
turn_advances names held held' event is steps later rest = ap (λ x. live_on names steps later held x rest) is
