-- One turn of a live run, as the code takes it: a step, and what is heard and told at it.
use Rattle.std.specs.Prelude.{◌≡◌, ℕ, ◌+◌, ◌<◌, Bool, true, false, List, [], ◌∷◌, ◌++◌, length, Option, Result, Ok, Err}
use Rattle.std.specs.Io.KnownBytes.{Appends, IsAtEnd}
use Rattle.cc_io.specs.Pieces.{IsPassedOn}
use Rattle.cc_io.specs.Wholes.{AppendsFront}
use Rattle.cc_io.specs.declared.whole.ReadAll.{ReadAll}
use Rattle.cc_io.specs.declared.whole.WriteAll.{WriteAll}
use Rattle.cc_line_reading.specs.LineReading.{Held, Hears, HearsNext, IsOver}
use Rattle.cc_live.specs.LiveEnds.{Listens, BeginsText, AreWithin}
use Rattle.cc_live.specs.LiveRuns.{Over, Waits, Breaks, Course, told_line, asked_text, stopped_text, behind_text, live_on}
use Rattle.cc_live.specs.declared.running.LiveError.{LiveError}
use Rattle.cc_live.specs.declared.running.LiveError.TheVariants as errors
use Rattle.cc_live.specs.declared.running.Said.{Said}
use Rattle.cc_live.specs.declared.running.Said.TheVariants as said
use Rattle.cc_machine.specs.Asking.{Question}
use Rattle.cc_replay.specs.Replays.{ending_in}
use Rattle.cc_replay.specs.RunTexts.{end_text}
use Rattle.cc_runs.specs.Machine.{Configuration, step}
use Rattle.cc_words.specs.Lines.{Line}

-- what comes of a configuration, by what comes of the next one
abbrev pub Turn : Type 0
Turn = (Configuration → Course) → Course

-- the turn of a configuration that so many steps led to
abbrev pub turn_of : List (List ℕ) → ℕ → Configuration → Turn
turn_of names steps configuration later = live_on names steps later configuration (step configuration)

-- the line of what is asked
abbrev pub question_line : List (List ℕ) → Question → List ℕ
question_line names question = told_line (asked_text names question.device question.operation question.argument)

-- What a line of the host does where something is asked: the run goes on to the next configuration, and what waits stays; or
-- it is stopped, and the line that says so is put; or it breaks.
abbrev pub SaysOf : List (List ℕ) → ℕ → Configuration → Question → Line → Configuration → List ℕ → List ℕ → Said → Type 0
SaysOf names steps held question line next waiting waiting' said.Answer =
    ((later : Configuration → Course) (rest : List Line)
    → turn_of names steps held later (line ∷ rest) ≡ behind_text (question_line names question) (later next rest))
    × (waiting' ≡ waiting)
SaysOf names steps held question line next waiting waiting' said.Stop =
    ((later : Configuration → Course) (rest : List Line)
    → turn_of names steps held later (line ∷ rest)
    ≡ record { text = question_line names question ++ told_line (stopped_text steps); standing = Over true rest })
    × (waiting' ≡ waiting ++ told_line (stopped_text steps))
SaysOf names steps held question line next waiting waiting' said.Other =
    (later : Configuration → Course) (rest : List Line)
    → turn_of names steps held later (line ∷ rest)
    ≡ record { text = question_line names question; standing = Breaks rest }

-- What comes of asking for a line of the host: it is taken without its line feed, and counted; or nothing is left; or that
-- failed.
abbrev pub HearsLine : Held → Held → Option (List ℕ) → Option (List ℕ) → ℕ → ℕ → Line → Result Bool ReadAll → Type 0
HearsLine old new left later count counted line (Ok true) =
    Hears old new left later (line ∷ []) × (counted ≡ count + 1) × (length line < 4194304)
HearsLine old new left later count counted line (Ok false) =
    Hears old new left later [] × IsOver new × IsAtEnd later × (counted ≡ count)
HearsLine old new left later count counted line (Err error) =
    HearsNext old new left later [] [] 4194304 (Err error) × (counted ≡ count)

-- what a turn writes: some of what waits and of the text, or all of both, or a front of both
abbrev pub TellsBehind : {T : Type 0} → Option (List ℕ) → Option (List ℕ) → List ℕ → List ℕ → List ℕ → Result T LiveError
    → Type 0
TellsBehind before after waiting waiting' text (Ok answer) = IsPassedOn before after waiting waiting' text
TellsBehind before after waiting waiting' text (Err errors.ReadFault) = Appends before after (waiting ++ text)
TellsBehind before after waiting waiting' text (Err errors.TooLong) = Appends before after (waiting ++ text)
TellsBehind before after waiting waiting' text (Err errors.NoMemory) = AppendsFront before after (waiting ++ text)
TellsBehind before after waiting waiting' text (Err errors.WriteFault) = AppendsFront before after (waiting ++ text)
TellsBehind before after waiting waiting' text (Err errors.Ended) = Appends before after (waiting ++ text)
TellsBehind before after waiting waiting' text (Err errors.BadLine) = Appends before after (waiting ++ text)

-- What comes of a turn with the lines that were heard: the run goes on from the next configuration, or the host stopped it;
-- or it stands as the error says.
abbrev pub TurnsTo : Turn → Configuration → List Line → List ℕ → Result Bool LiveError → Type 0
TurnsTo turn next heard text (Ok true) =
    (later : Configuration → Course) (rest : List Line) → turn later (heard ++ rest) ≡ behind_text text (later next rest)
TurnsTo turn next heard text (Ok false) =
    (later : Configuration → Course) (rest : List Line)
    → turn later (heard ++ rest) ≡ record { text = text; standing = Over true rest }
TurnsTo turn next heard text (Err errors.ReadFault) =
    (later : Configuration → Course) → turn later heard ≡ record { text = text; standing = Waits }
TurnsTo turn next heard text (Err errors.TooLong) =
    (later : Configuration → Course) → turn later heard ≡ record { text = text; standing = Waits }
TurnsTo turn next heard text (Err errors.NoMemory) =
    (later : Configuration → Course) → BeginsText text (turn later heard)
TurnsTo turn next heard text (Err errors.WriteFault) =
    (later : Configuration → Course) → BeginsText text (turn later heard)
TurnsTo turn next heard text (Err errors.Ended) =
    (later : Configuration → Course) → turn later heard ≡ record { text = text; standing = Waits }
TurnsTo turn next heard text (Err errors.BadLine) =
    (later : Configuration → Course) (rest : List Line)
    → turn later (heard ++ rest) ≡ record { text = text; standing = Breaks rest }

-- A turn as it was taken.
pub record TakesTurn (turn : Turn) (next : Configuration) (old new : Held) (left later : Option (List ℕ)) (count counted : ℕ)
    (before after : Option (List ℕ)) (waiting waiting' : List ℕ) (result : Result Bool LiveError) : Type 0 where
  pub heard : List Line
  pub within : AreWithin heard
  pub text : List ℕ
  pub listens : Listens old new left later heard result
  pub counts : counted ≡ count + length heard
  pub tells : TellsBehind before after waiting waiting' text result
  pub comes : TurnsTo turn next heard text result

-- What a step without a question comes to: the next configuration, with the text of its event; or a failure of memory or of
-- a write, with a front of that.
abbrev pub AdvancesTo : List (List ℕ) → Configuration → Configuration → Option (List ℕ) → Option (List ℕ) → List ℕ → List ℕ
    → Result (Unit {0}) WriteAll → Type 0
AdvancesTo names held next before after waiting waiting' (Ok u) =
    (text : List ℕ)
    × ((steps : ℕ) (later : Configuration → Course) (rest : List Line)
    → turn_of names steps held later rest ≡ behind_text text (later next rest))
    × IsPassedOn before after waiting waiting' text
AdvancesTo names held next before after waiting waiting' (Err error) =
    (text : List ℕ)
    × ((steps : ℕ) (later : Configuration → Course) (rest : List Line)
    → BeginsText text (turn_of names steps held later rest))
    × AppendsFront before after (waiting ++ text)

-- the line of the end, where no more steps are taken
abbrev pub end_line : List (List ℕ) → ℕ → Configuration → List ℕ
end_line names steps held = told_line (end_text names (ending_in held (step held)) steps)

-- what is answered where the host stopped the run: that it was cut short, and all that waits was written, or a front of it
abbrev pub StopsSo : Option (List ℕ) → Option (List ℕ) → List ℕ → Result Bool LiveError → Type 0
StopsSo before after waiting (Ok refused) = (refused ≡ true) × Appends before after waiting
StopsSo before after waiting (Err errors.ReadFault) = ⊥
StopsSo before after waiting (Err errors.TooLong) = ⊥
StopsSo before after waiting (Err errors.NoMemory) = AppendsFront before after waiting
StopsSo before after waiting (Err errors.WriteFault) = AppendsFront before after waiting
StopsSo before after waiting (Err errors.Ended) = ⊥
StopsSo before after waiting (Err errors.BadLine) = ⊥
