-- Runs whose devices are answered from outside, and the lines that are told of them.
use Rattle.std.specs.Prelude.{◌≡◌, ◌≢◌, ◌⊎◌, ◌≤◌, ℕ, zero, suc, Bool, true, List, [], ◌∷◌, ◌++◌, length, map, Option, Some, IsTrue}
use Rattle.cc_base.specs.Literals.{Literal, UnitLiteral, TruthLiteral, NumberLiteral, TextLiteral}
use Rattle.cc_base.specs.declared.literal.Op.{Op}
use Rattle.cc_core.specs.Typing.{base_of, base_answered}
use Rattle.cc_device.specs.Events.{Event, Operated, literal_shown}
use Rattle.cc_runs.specs.Machine.{Configuration, StepOutcome, Stuck, Final, Next, Ask, step}
use Rattle.cc_runs.specs.Runs.{Ending, with_event}
use Rattle.cc_replay.specs.Replays.{ending_in}
use Rattle.cc_replay.specs.RunTexts.{event_text, end_text}
use Rattle.cc_words.specs.Lines.{Line}
use Rattle.cc_words.specs.Words.{has_64_bits}

-- a number of the literal has 64 bits
abbrev pub fits_64_bits : Literal → Bool
fits_64_bits UnitLiteral = true
fits_64_bits (TruthLiteral truth) = true
fits_64_bits (NumberLiteral number) = has_64_bits number
fits_64_bits (TextLiteral text) = true

-- the literal is one that a device may answer to the operation
abbrev pub IsAnswerOf : Op → Literal → Type 0
IsAnswerOf operation answer = (base_of answer ≡ base_answered operation) × IsTrue (fits_64_bits answer)

-- A configuration goes to another, with the event if there is one: by itself, or with an answer to what it asks.
pub data GoesTo (before : Configuration) : Option Event → Configuration → Type 0 where
  by_itself : {event : Option Event} {next : Configuration} → step before ≡ Next event next → GoesTo before event next
  by_answer : {device : ℕ} {operation : Op} {argument : Option Literal} {resume : Literal → Configuration}
      (answer : Literal) → step before ≡ Ask device operation argument resume → IsAnswerOf operation answer
      → GoesTo before (Some (Operated device operation (literal_shown argument answer))) (resume answer)

-- so many such steps, with the events in order
pub data GoesOnTo : ℕ → Configuration → List Event → Configuration → Type 0 where
  none : {configuration : Configuration} → GoesOnTo zero configuration [] configuration
  more : {steps : ℕ} {before next last : Configuration} {event : Option Event} {events : List Event}
      → GoesTo before event next → GoesOnTo steps next events last
      → GoesOnTo (suc steps) before (with_event event events) last

-- no step is taken from what comes to this
abbrev pub TakesNoStep : StepOutcome → Type 0
TakesNoStep Stuck = Unit {0}
TakesNoStep Final = Unit {0}
TakesNoStep (Next event next) = ⊥
TakesNoStep (Ask device operation argument resume) = ⊥

-- A run from a configuration, with so much fuel, whose devices are answered from outside: its events in order, the
-- number of its steps, and its last configuration, which takes no step or which so much fuel led to.
pub record AnsweredRun (fuel : ℕ) (start : Configuration) : Type 0 where
  pub events : List Event
  pub steps : ℕ
  pub last : Configuration
  pub went : GoesOnTo steps start events last
  pub within : steps ≤ fuel
  pub ended : (steps ≡ fuel) ⊎ TakesNoStep (step last)

-- the lines of a trace: the events in order, and the end with the number of the steps
abbrev pub trace_lines : List (List ℕ) → List Event → Ending → ℕ → List Line
trace_lines names events ending steps = map (event_text names) events ++ end_text names ending steps ∷ []

-- how such a run ends
abbrev pub ending_after : {fuel : ℕ} {start : Configuration} → AnsweredRun fuel start → Ending
ending_after run = ending_in run.last (step run.last)

-- its trace
abbrev pub trace_of : {fuel : ℕ} {start : Configuration} → List (List ℕ) → AnsweredRun fuel start → List Line
trace_of names run = trace_lines names run.events (ending_after run) run.steps

-- the lines begin the trace of such a run
abbrev pub BeginTrace : List (List ℕ) → ℕ → Configuration → List (List ℕ) → Type 0
BeginTrace names fuel start front =
    (it : AnsweredRun fuel start) × (behind : List (List ℕ)) × (trace_of names it ≡ front ++ behind)

-- with the lines and the next one no trace begins, or where no line is left, they are none
abbrev pub BeginNoTraceWith : List (List ℕ) → ℕ → Configuration → List (List ℕ) → List (List ℕ) → Type 0
BeginNoTraceWith names fuel start front [] = (it : AnsweredRun fuel start) → trace_of names it ≢ front
BeginNoTraceWith names fuel start front (next ∷ others) = BeginTrace names fuel start (front ++ next ∷ []) → ⊥

-- The line, from 1 on, is the first with which no trace goes on: a trace begins with the lines before it, and none with
-- it too. Where it is behind the last line, one is needed there.
pub record IsFirstDifference (names : List (List ℕ)) (fuel : ℕ) (start : Configuration) (lines : List (List ℕ))
    (line : ℕ) : Type 0 where
  pub front : List (List ℕ)
  pub rest : List (List ℕ)
  pub split : lines ≡ front ++ rest
  pub counted : line ≡ suc (length front)
  pub begins : BeginTrace names fuel start front
  pub differs : BeginNoTraceWith names fuel start front rest
