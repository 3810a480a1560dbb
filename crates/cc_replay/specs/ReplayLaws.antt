-- What replays say.
use Rattle.std.specs.Prelude.{◌≡◌, ◌≢◌, ℕ, suc, ℤ, List, [], ◌∷◌, ◌++◌, length, IsTrue, encode_utf8_all}
use Rattle.std.specs.List.{AllByRecursion, flat_map}
use Rattle.cc_base.specs.Literals.{Literal, NumberLiteral}
use Rattle.cc_base.specs.declared.literal.Base.TheVariants as bases
use Rattle.cc_base.specs.declared.literal.Op.{Op}
use Rattle.cc_certificate_writing.specs.CertificateTextLaws.{IsOneLine}
use Rattle.cc_core.specs.Programs.{Entry, IsEntry}
use Rattle.cc_core.specs.Stores.{DeviceCell}
use Rattle.cc_core.specs.Typing.{base_operated, base_answered}
use Rattle.cc_device.specs.Events.{Event, Operated, FollowsAll, IsWellScoped}
use Rattle.cc_runs.specs.Alike.{IsAlike}
use Rattle.cc_runs.specs.Links.{program_start}
use Rattle.cc_runs.specs.Machine.{Configuration, step, Stuck}
use Rattle.cc_runs.specs.Reach.{SetReaches, captured_set}
use Rattle.cc_runs.specs.Runs.{State, IsStopped, Run, run}
use Rattle.cc_runs.specs.Soundness.{IsSound}
use Rattle.cc_runs.specs.SafeRuns.{scopes_of, IsListed, IsAmong}
use Rattle.cc_runs.specs.SoundRuns.{IsSoundState}
use Rattle.cc_replay.specs.AnsweredRuns.{GoesOnTo, AnsweredRun, ending_after, trace_lines, trace_of, IsFirstDifference}
use Rattle.cc_replay.specs.LineLiterals.{IsLineState}
use Rattle.cc_replay.specs.Replays.{replay}
use Rattle.cc_replay.specs.declared.replaying.Replayed.TheVariants.{Agrees, Differs}
use Rattle.cc_words.specs.Lines.{lines_of}
use Rattle.cc_words.specs.Words.{has_64_bits}

-- A replay agrees exactly where the lines are the trace of a run whose devices are answered from outside.
abbrev pub AgreeingLinesAreTraces : Type 0
AgreeingLinesAreTraces =
    (names : List (List ℕ)) (fuel : ℕ) (start : Configuration) (lines : List (List ℕ))
    → (replay names fuel start lines ≡ Agrees → (it : AnsweredRun fuel start) × (lines ≡ trace_of names it))
    × ((it : AnsweredRun fuel start) → lines ≡ trace_of names it → replay names fuel start lines ≡ Agrees)

-- A replay differs exactly at that line.
abbrev pub ReplaysDifferFirst : Type 0
ReplaysDifferFirst =
    (names : List (List ℕ)) (fuel : ℕ) (start : Configuration) (lines : List (List ℕ)) (line : ℕ)
    → (replay names fuel start lines ≡ Differs line → IsFirstDifference names fuel start lines line)
    × (IsFirstDifference names fuel start lines line → replay names fuel start lines ≡ Differs line)

-- What holds of a run from a sound configuration, whatever its devices are answered: it is stuck nowhere; each device
-- that is operated is reached by what the configuration captures; and the events lead from the scopes that stand at its
-- start to those at its end.
pub record IsSafeFrom (start : Configuration) {fuel : ℕ} (it : AnsweredRun fuel start) : Type 0 where
  pub not_stopped : ending_after it ≢ IsStopped
  pub never_stuck : (now : Configuration) (steps : ℕ) (events : List Event) → GoesOnTo steps start events now
      → step now ≢ Stuck
  pub reached : (device : ℕ) (operation : Op) (literal : Literal) → IsAmong (Operated device operation literal) it.events
      → SetReaches start.store (captured_set start) (DeviceCell device (base_operated operation))
  pub scopes : FollowsAll (scopes_of start.stack) it.events (scopes_of it.last.stack)

-- the lines are the trace of such a run
abbrev pub IsSafeTrace : List (List ℕ) → ℕ → Configuration → List (List ℕ) → Type 0
IsSafeTrace names fuel start lines =
    (it : AnsweredRun fuel start) × (lines ≡ trace_of names it) × IsSafeFrom start it

-- that they are one, without saying which run it is
abbrev pub IsSafelyTraced : List (List ℕ) → ℕ → Configuration → List (List ℕ) → Type 0
IsSafelyTraced names fuel start lines = ∥ IsSafeTrace names fuel start lines ∥₁

-- So it is with the lines that a replay from a sound configuration agrees with.
abbrev pub AgreeingTracesAreSafe : Type 0
AgreeingTracesAreSafe =
    (names : List (List ℕ)) (fuel : ℕ) (start : Configuration) (lines : List (List ℕ)) → IsSound start
    → replay names fuel start lines ≡ Agrees → IsSafeTrace names fuel start lines

-- Where a replay of an entry's program agrees, the trace is that of a run that operates devices of the entry's
-- authority alone, whose events are well scoped, and that does not stop before its end.
abbrev pub AgreeingTracesKeepTheAuthority : Type 0
AgreeingTracesKeepTheAuthority =
    (entry : Entry) → IsEntry entry → (names : List (List ℕ)) (fuel : ℕ) (lines : List (List ℕ))
    → replay names fuel (program_start entry) lines ≡ Agrees
    → (it : AnsweredRun fuel (program_start entry)) × (lines ≡ trace_of names it)
    × ((device : ℕ) (operation : Op) (literal : Literal) → IsAmong (Operated device operation literal) it.events
    → IsListed device entry.authority)
    × IsWellScoped it.events × (ending_after it ≢ IsStopped)

-- the lines of a run on devices
abbrev pub lines_of_run : List (List ℕ) → Run → List (List ℕ)
lines_of_run names it = trace_lines names it.events it.ending it.steps

-- each number that a device answered has 64 bits
abbrev pub HasAnswersOf64Bits : List Event → Type 0
HasAnswersOf64Bits events =
    (device : ℕ) (operation : Op) (number : ℤ) → base_answered operation ≡ bases.Int
    → IsAmong (Operated device operation (NumberLiteral number)) events → IsTrue (has_64_bits number)

-- The lines that a run on devices gives agree when they are replayed with its fuel.
abbrev pub RunsAreReplayed : Type 0
RunsAreReplayed =
    (names : List (List ℕ)) (fuel : ℕ) (start : State) → IsSoundState start
    → HasAnswersOf64Bits (run fuel start).events
    → replay names fuel start.configuration (lines_of_run names (run fuel start)) ≡ Agrees

-- the lines, each with a line feed behind it
abbrev pub written_lines : List (List ℕ) → List ℕ
written_lines lines = flat_map (λ line. line ++ 10 ∷ []) lines

-- So it is with the text of these lines, where the names of the devices have no line feed, and where each number is one
-- of 64 bits at the start and no text has a line feed.
abbrev pub WrittenRunsAreReplayed : Type 0
WrittenRunsAreReplayed =
    (names : List (List ℕ)) (fuel : ℕ) (start : State) → IsSoundState start → IsLineState start
    → AllByRecursion (λ name. IsOneLine (encode_utf8_all name)) names
    → replay names fuel start.configuration (lines_of (written_lines (lines_of_run names (run fuel start)))) ≡ Agrees

-- Types and shapes that are written decide no replay.
abbrev pub AlikeReplayAlike : Type 0
AlikeReplayAlike =
    (names : List (List ℕ)) (fuel : ℕ) (left right : Configuration) (lines : List (List ℕ)) → IsAlike left right
    → replay names fuel left lines ≡ replay names fuel right lines
