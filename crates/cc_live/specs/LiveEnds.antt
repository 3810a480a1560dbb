-- What comes of a live run that reads the lines of the host from a source and tells to a sink.
use Rattle.std.specs.Prelude.{◌≡◌, ℕ, ◌+◌, ◌<◌, Bool, List, [], ◌++◌, length, Option, Result, Ok, Err}
use Rattle.std.specs.Io.KnownBytes.{Appends, IsAtEnd}
use Rattle.std.specs.List.{AllByRecursion}
use Rattle.cc_io.specs.Wholes.{AppendsFront}
use Rattle.cc_io.specs.declared.whole.ReadAll.{ReadAll}
use Rattle.cc_io.specs.declared.whole.ReadAll.TheVariants as read_errors
use Rattle.cc_line_reading.specs.LineReading.{Held, Hears, HearsNext, IsOver}
use Rattle.cc_live.specs.LiveRuns.{Live, Over, Waits, Breaks, Course}
use Rattle.cc_live.specs.declared.running.LiveError.{LiveError}
use Rattle.cc_live.specs.declared.running.LiveError.TheVariants as errors
use Rattle.cc_words.specs.Lines.{Line}

-- These lines were taken, and then a line was asked for, which failed: it has more bytes than 4,194,304 with its line feed,
-- or a read failed, or memory lacked.
pub record HearsAndFails (old new : Held) (left later : Option (List ℕ)) (lines : List Line) (error : ReadAll) : Type 0
  where
    pub between : Held
    pub rest : Option (List ℕ)
    pub first : Hears old between left rest lines
    pub fails : HearsNext between new rest later [] [] 4194304 (Err error)

-- What was read at each answer: these lines. Behind them the source is at its end, or a part of a line was read.
abbrev pub Listens : {T : Type 0} → Held → Held → Option (List ℕ) → Option (List ℕ) → List Line → Result T LiveError
    → Type 0
Listens old new left later lines (Ok answer) = Hears old new left later lines
Listens old new left later lines (Err errors.ReadFault) =
    HearsAndFails old new left later lines read_errors.ReadFault
Listens old new left later lines (Err errors.TooLong) = HearsAndFails old new left later lines read_errors.TooLong
Listens old new left later lines (Err errors.NoMemory) = HearsAndFails old new left later lines read_errors.NoMemory
Listens old new left later lines (Err errors.WriteFault) = Hears old new left later lines
Listens old new left later lines (Err errors.Ended) = Hears old new left later lines × IsOver new × IsAtEnd later
Listens old new left later lines (Err errors.BadLine) = Hears old new left later lines

-- What was written at each answer: the whole text, or a front of it where a write failed or memory lacked.
abbrev pub Tells : {T : Type 0} → Option (List ℕ) → Option (List ℕ) → List ℕ → Result T LiveError → Type 0
Tells before after text (Ok answer) = Appends before after text
Tells before after text (Err errors.ReadFault) = Appends before after text
Tells before after text (Err errors.TooLong) = Appends before after text
Tells before after text (Err errors.NoMemory) = AppendsFront before after text
Tells before after text (Err errors.WriteFault) = AppendsFront before after text
Tells before after text (Err errors.Ended) = Appends before after text
Tells before after text (Err errors.BadLine) = Appends before after text

-- the text is a front of what is told of the live run
abbrev pub BeginsText : List ℕ → Live → Type 0
BeginsText text it = (behind : List ℕ) × (it.text ≡ text ++ behind)

-- How the live run stands at each answer, with the text that was to be written. At a failure of memory or of a write its
-- text only begins with that one.
abbrev pub ComesTo : Live → List ℕ → Result Bool LiveError → Type 0
ComesTo it text (Ok refused) = it ≡ record { text = text; standing = Over refused [] }
ComesTo it text (Err errors.ReadFault) = it ≡ record { text = text; standing = Waits }
ComesTo it text (Err errors.TooLong) = it ≡ record { text = text; standing = Waits }
ComesTo it text (Err errors.NoMemory) = BeginsText text it
ComesTo it text (Err errors.WriteFault) = BeginsText text it
ComesTo it text (Err errors.Ended) = it ≡ record { text = text; standing = Waits }
ComesTo it text (Err errors.BadLine) = it ≡ record { text = text; standing = Breaks [] }

-- each of the lines has at most 4,194,304 bytes with its line feed
abbrev pub AreWithin : List Line → Type 0
AreWithin lines = AllByRecursion (λ line. length line < 4194304) lines

-- A live run as it was answered: the lines of the host that were taken from what was held and from the source, and are
-- counted; and the text that was written to the sink.
pub record RunsLive (course : Course) (old new : Held) (left later : Option (List ℕ)) (count counted : ℕ)
    (before after : Option (List ℕ)) (result : Result Bool LiveError) : Type 0 where
  pub heard : List Line
  pub within : AreWithin heard
  pub text : List ℕ
  pub listens : Listens old new left later heard result
  pub counts : counted ≡ count + length heard
  pub tells : Tells before after text result
  pub comes : ComesTo (course heard) text result

-- the count of faults of the source rises exactly where a read fault is answered
abbrev pub ReadsBy : {T : Type 0} → ℕ → ℕ → Result T LiveError → Type 0
ReadsBy before after (Ok answer) = after ≡ before
ReadsBy before after (Err errors.ReadFault) = before < after
ReadsBy before after (Err errors.TooLong) = after ≡ before
ReadsBy before after (Err errors.NoMemory) = after ≡ before
ReadsBy before after (Err errors.WriteFault) = after ≡ before
ReadsBy before after (Err errors.Ended) = after ≡ before
ReadsBy before after (Err errors.BadLine) = after ≡ before

-- the count of faults of the sink rises exactly where a write fault is answered
abbrev pub WritesBy : {T : Type 0} → ℕ → ℕ → Result T LiveError → Type 0
WritesBy before after (Ok answer) = after ≡ before
WritesBy before after (Err errors.ReadFault) = after ≡ before
WritesBy before after (Err errors.TooLong) = after ≡ before
WritesBy before after (Err errors.NoMemory) = after ≡ before
WritesBy before after (Err errors.WriteFault) = before < after
WritesBy before after (Err errors.Ended) = after ≡ before
WritesBy before after (Err errors.BadLine) = after ≡ before
