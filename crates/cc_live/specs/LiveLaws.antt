-- What live runs say.
use Rattle.std.specs.Prelude.{◌≡◌, ◌≢◌, ◌⊎◌, ◌≤◌, ◌<◌, ℕ, true, List, ◌++◌, Option}
use Rattle.std.specs.List.{flat_map}
use Rattle.cc_base.specs.Literals.{Literal}
use Rattle.cc_base.specs.declared.literal.Op.{Op}
use Rattle.cc_core.specs.Programs.{Entry, IsEntry}
use Rattle.cc_device.specs.Events.{Event, Operated, IsWellScoped}
use Rattle.cc_live.specs.LiveRuns.{Standing, Over, Waits, Breaks, Live, told_line, asked_text, told_text, stopped_text, is_cut_short, live}
use Rattle.cc_replay.specs.AnsweredRuns.{GoesOnTo, TakesNoStep, trace_lines}
use Rattle.cc_replay.specs.Replays.{ending_in, replay}
use Rattle.cc_replay.specs.RunTexts.{end_text}
use Rattle.cc_replay.specs.declared.replaying.Replayed.TheVariants.{Agrees}
use Rattle.cc_runs.specs.Alike.{IsAlike}
use Rattle.cc_runs.specs.Links.{program_start}
use Rattle.cc_runs.specs.Machine.{Configuration, Stuck, Ask, step}
use Rattle.cc_runs.specs.Runs.{IsStopped}
use Rattle.cc_runs.specs.SafeRuns.{IsListed, IsAmong}
use Rattle.cc_words.specs.Lines.{Line}

-- A live run with more lines, by how it stands without them: where it needs no more of them they are left too, and where it
-- waits for one its text is the front of the other.
abbrev pub GoesOnWith : List Line → List ℕ → Standing → Live → Type 0
GoesOnWith more text (Over refused rest) it = it ≡ record { text = text; standing = Over refused (rest ++ more) }
GoesOnWith more text Waits it = (behind : List ℕ) × (it.text ≡ text ++ behind)
GoesOnWith more text (Breaks rest) it = it ≡ record { text = text; standing = Breaks (rest ++ more) }

-- What was told is not taken back when the host says more.
abbrev pub MoreLinesGoOn : Type 0
MoreLinesGoOn =
    (names : List (List ℕ)) (fuel : ℕ) (start : Configuration) (lines more : List Line)
    → GoesOnWith more (live names fuel start lines).text (live names fuel start lines).standing
    (live names fuel start (lines ++ more))

-- the lines that are told of events
abbrev pub told_lines : List (List ℕ) → List Event → List ℕ
told_lines names events = flat_map (λ event. told_line (told_text names event)) events

-- What is told behind the events of so many steps, and how the run stands then: the line of the end, where the last
-- configuration takes no step or the fuel is spent; or where steps are left and a device is asked, the line of that. Then the
-- run waits for the answer, or the host stopped it, which the next line says, or its line is no answer.
pub data Stands (names : List (List ℕ)) (fuel steps : ℕ) (now : Configuration) : List ℕ → Standing → Type 0 where
  at_its_end : {rest : List Line} → (steps ≡ fuel) ⊎ TakesNoStep (step now)
      → Stands names fuel steps now (told_line (end_text names (ending_in now (step now)) steps))
      (Over (is_cut_short (ending_in now (step now))) rest)
  waiting : {device : ℕ} {operation : Op} {argument : Option Literal} {resume : Literal → Configuration}
      → step now ≡ Ask device operation argument resume → steps < fuel
      → Stands names fuel steps now (told_line (asked_text names device operation argument)) Waits
  stopped : {device : ℕ} {operation : Op} {argument : Option Literal} {resume : Literal → Configuration}
      {rest : List Line}
      → step now ≡ Ask device operation argument resume → steps < fuel
      → Stands names fuel steps now
      (told_line (asked_text names device operation argument) ++ told_line (stopped_text steps)) (Over true rest)
  broken : {device : ℕ} {operation : Op} {argument : Option Literal} {resume : Literal → Configuration}
      {rest : List Line}
      → step now ≡ Ask device operation argument resume → steps < fuel
      → Stands names fuel steps now (told_line (asked_text names device operation argument)) (Breaks rest)

-- A live run told of: the steps that were taken with the answers of the host, their events and where they led; and the text
-- is what is told of these events, with what stands behind them.
pub record IsAnswered (names : List (List ℕ)) (fuel : ℕ) (start : Configuration) (it : Live) : Type 0 where
  pub steps : ℕ
  pub events : List Event
  pub now : Configuration
  pub went : GoesOnTo steps start events now
  pub within : steps ≤ fuel
  pub last : List ℕ
  pub text : it.text ≡ told_lines names events ++ last
  pub stands : Stands names fuel steps now last it.standing

-- Each live run is one whose devices were answered by the host.
abbrev pub LiveRunsAreAnswered : Type 0
LiveRunsAreAnswered =
    (names : List (List ℕ)) (fuel : ℕ) (start : Configuration) (lines : List Line)
    → IsAnswered names fuel start (live names fuel start lines)

-- What holds of a live run that has leave to use some devices, whatever the host says. It is stuck at no moment. At each, a
-- device that is asked is one of those, also where it is not answered. So is each device of its events, which are well
-- scoped. It does not stop before its end.
pub record IsSafelyLive (permitted : List ℕ) (start : Configuration) (steps : ℕ) (events : List Event)
    (now : Configuration) : Type 0 where
  pub never_stuck : (moment : Configuration) (count : ℕ) (before : List Event) → GoesOnTo count start before moment
      → step moment ≢ Stuck
  pub asks : (moment : Configuration) (count : ℕ) (before : List Event) → GoesOnTo count start before moment
      → (device : ℕ) (operation : Op) (argument : Option Literal) (resume : Literal → Configuration)
      → step moment ≡ Ask device operation argument resume → IsListed device permitted
  pub operates : (device : ℕ) (operation : Op) (literal : Literal) → IsAmong (Operated device operation literal) events
      → IsListed device permitted
  pub well_scoped : IsWellScoped events
  pub not_stopped : ending_in now (step now) ≢ IsStopped

-- So it is with the live runs of an entry's program and the entry's authority.
abbrev pub LiveRunsAreSafe : Type 0
LiveRunsAreSafe =
    (entry : Entry) → IsEntry entry → (names : List (List ℕ)) (fuel : ℕ) (lines : List Line)
    → (it : IsAnswered names fuel (program_start entry) (live names fuel (program_start entry) lines))
    → IsSafelyLive entry.authority (program_start entry) it.steps it.events it.now

-- the run is at its end, and was not stopped
abbrev pub CameToItsEnd : {names : List (List ℕ)} {fuel steps : ℕ} {now : Configuration} {last : List ℕ} {standing : Standing}
    → Stands names fuel steps now last standing → Type 0
CameToItsEnd (at_its_end over) = Unit {0}
CameToItsEnd (waiting asks left) = ⊥
CameToItsEnd (stopped asks left) = ⊥
CameToItsEnd (broken asks left) = ⊥

-- The trace of a live run that came to its end agrees when it is replayed with its fuel.
abbrev pub LiveRunsAreReplayed : Type 0
LiveRunsAreReplayed =
    (names : List (List ℕ)) (fuel : ℕ) (start : Configuration) (lines : List Line)
    → (it : IsAnswered names fuel start (live names fuel start lines)) → CameToItsEnd it.stands
    → replay names fuel start (trace_lines names it.events (ending_in it.now (step it.now)) it.steps) ≡ Agrees

-- The text of a live run is made of lines that begin with two spaces.
abbrev pub LiveTextsAreLines : Type 0
LiveTextsAreLines =
    (names : List (List ℕ)) (fuel : ℕ) (start : Configuration) (lines : List Line)
    → (texts : List (List ℕ)) × ((live names fuel start lines).text ≡ flat_map told_line texts)

-- Types and shapes that are written decide no live run.
abbrev pub AlikeLiveAlike : Type 0
AlikeLiveAlike =
    (names : List (List ℕ)) (fuel : ℕ) (left right : Configuration) (lines : List Line) → IsAlike left right
    → live names fuel left lines ≡ live names fuel right lines
