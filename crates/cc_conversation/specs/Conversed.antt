-- How a conversation goes on and ends: what was read, and what was written for it.
use Rattle.std.specs.Prelude.{◌≡◌, ◌≢◌, ◌⊎◌, ℕ, suc, ◌<◌, Bool, true, false, List, [], ◌++◌, length, Option}
use Rattle.std.specs.Io.KnownBytes.{Appends, Consumes, IsAtEnd}
use Rattle.cc_io.specs.Wholes.{AppendsFront}
use Rattle.cc_words.specs.Lines.{Line}
use Rattle.cc_line_reading.specs.LineReading.{Held, Hears, HearsPart, IsOver}
use Rattle.cc_conversation.specs.declared.conversing.Ended.{Ended}
use Rattle.cc_conversation.specs.declared.conversing.Ended.TheVariants as endings
use Rattle.cc_conversation.specs.Conversations.{Standing, Rests, Begun, Asks, EndedAt, Overlong, IsSpoken, IsHeard, with_part}

-- the bytes that a source has left and those that a sink holds, where they tell them, and how often each failed
pub record Ends : Type 0 where
  pub left : Option (List ℕ)
  pub read_faults : ℕ
  pub written : Option (List ℕ)
  pub write_faults : ℕ

abbrev pub ends : Option (List ℕ) → ℕ → Option (List ℕ) → ℕ → Ends
ends left read_faults written write_faults = record {
  left = left;
  read_faults = read_faults;
  written = written;
  write_faults = write_faults;
}

-- nothing was read yet
abbrev pub fresh : Held
fresh = record { bytes = []; ended = false }

-- These lines were taken from the source, in order, and what is held of what was read besides was not taken.
abbrev pub HasHeard : Ends → Ends → List Line → Type 0
HasHeard before after lines = (held : Held) × Hears fresh held before.left after.left lines

-- these lines were taken, and nothing is left
abbrev pub HasHeardAll : Ends → Ends → List Line → Type 0
HasHeardAll before after lines =
    (held : Held) × Hears fresh held before.left after.left lines × IsOver held × IsAtEnd after.left

-- these lines were taken, and then a part of one more
pub record HasHeardPart (before after : Ends) (lines : List Line) (part : List ℕ) : Type 0 where
  pub between : Held
  pub there : Option (List ℕ)
  pub held : Held
  pub hears : Hears fresh between before.left there lines
  pub further : HearsPart between held there after.left part

-- these lines were taken, and some bytes more
pub record HasHeardMore (before after : Ends) (lines : List Line) : Type 0 where
  pub held : Held
  pub there : Option (List ℕ)
  pub hears : Hears fresh held before.left there lines
  pub read : List ℕ
  pub consumed : Consumes there after.left read

-- no read failed and no write did
pub record HasNoFault (before after : Ends) : Type 0 where
  pub reads : after.read_faults ≡ before.read_faults
  pub writes : after.write_faults ≡ before.write_faults

-- lines are answered so, and that was written whole
pub record IsAnswered (before after : Ends) (lines : List Line) (refused : Bool) (standing : Standing) : Type 0 where
  pub text : List ℕ
  pub spoken : IsSpoken lines text refused standing
  pub written : Appends before.written after.written text

-- the same of the first of the lines, but a front was written
pub record IsAnsweredInPart (before after : Ends) (lines : List Line) : Type 0 where
  pub front : List Line
  pub rest : List Line
  pub parts : lines ≡ front ++ rest
  pub text : List ℕ
  pub refused : Bool
  pub standing : Standing
  pub spoken : IsSpoken front text refused standing
  pub written : AppendsFront before.written after.written text

-- These bytes came from the source, in whatever pieces, no line of them is bad, and what belongs to them was written whole.
pub record IsAnsweredSoFar (before after : Ends) : Type 0 where
  pub read : List ℕ
  pub consumed : Consumes before.left after.left read
  pub text : List ℕ
  pub refused : Bool
  pub standing : Standing
  pub heard : IsHeard read text refused standing
  pub no_bad_line : (number : ℕ) → standing ≡ EndedAt number → ⊥
  pub written : Appends before.written after.written text

-- All lines were taken, and answered whole; nothing is open.
pub record IsOverWith (before after : Ends) (refused : Bool) : Type 0 where
  pub lines : List Line
  pub heard : HasHeardAll before after lines
  pub some : lines ≢ []
  pub answered : IsAnswered before after lines refused Rests
  pub no_fault : HasNoFault before after

-- The lines were taken up to one with which none goes on, the one of this number, or they end where one is missing; what
-- belongs to the lines before it was written whole.
pub record HasBadLine (before after : Ends) (number : ℕ) : Type 0 where
  pub lines : List Line
  pub refused : Bool
  pub answered : (HasHeard before after lines × IsAnswered before after lines refused (EndedAt number))
      ⊎ (HasHeardAll before after lines × (number ≡ suc (length lines))
      × (((lines ≡ []) × IsAnswered before after lines refused Rests)
      ⊎ (((bytes : ℕ) × IsAnswered before after lines refused (Begun bytes))
      ⊎ IsAnswered before after lines refused Asks)))
  pub no_fault : HasNoFault before after

-- How a conversation ended, for each ending. Each read of a source may fail, and none knows before whether it does: so what
-- is said of a read fault tells how it stands before each read. All that belongs to the bytes that came is written then.
abbrev pub Conversed : Ends → Ends → Ended → Type 0
Conversed before after endings.Clean = IsOverWith before after false
Conversed before after endings.Refusals = IsOverWith before after true
Conversed before after (endings.BadLine number) = HasBadLine before after number
Conversed before after endings.TooLong =
    (lines : List Line) × (part : List ℕ) × (refused : Bool) × (standing : Standing)
    × HasHeardPart before after lines part × IsAnswered before after lines refused standing
    × (with_part standing (length part) ≡ Overlong) × HasNoFault before after
Conversed before after endings.ReadFault =
    IsAnsweredSoFar before after × (before.read_faults < after.read_faults) × (after.write_faults ≡ before.write_faults)
Conversed before after endings.WriteFault =
    (lines : List Line) × HasHeard before after lines × IsAnsweredInPart before after lines
    × (after.read_faults ≡ before.read_faults) × (before.write_faults < after.write_faults)
Conversed before after endings.NoMemory =
    (lines : List Line) × HasHeardMore before after lines × IsAnsweredInPart before after lines
    × HasNoFault before after
