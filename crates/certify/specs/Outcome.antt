-- What a call of the program may do that judges a certificate: what is read and written, for each status.
use Rattle.std.specs.Prelude.{◌≡◌, ℕ, ◌+◌, ◌<◌, ◌≤◌, ◌⊎◌, true, false, List, ◌++◌, codes, length, Option}
use Rattle.std.specs.Io.KnownBytes.{Consumes, IsAtEnd, Keeps, Appends}
use Rattle.cc_io.specs.Wholes.{TakesCount, AppendsFront}
use Rattle.cc_certificate_judging.specs.Answers.{Found, IsFound, found_text, is_valid}
use Rattle.certify.specs.declared.status.Status.{Status}
use Rattle.certify.specs.declared.status.Status.TheVariants.{Valid, Invalid, ReadFault, TooLong, NoMemory, WriteFault, BadWords}

-- the greatest number of bytes of a certificate
abbrev pub certificate_limit : ℕ
certificate_limit = 4294967295

-- the bytes that a source has left and those that a sink holds, where they tell them, and how often each failed
pub record Ends : Type 0 where
  pub left : Option (List ℕ)
  pub read_faults : ℕ
  pub written : Option (List ℕ)
  pub write_faults : ℕ

abbrev pub ends : Option (List ℕ) → ℕ → Option (List ℕ) → ℕ → Ends
ends left read_faults written write_faults = record {
  left = left;
  read_faults = read_faults;
  written = written;
  write_faults = write_faults;
}

-- so many bytes were taken from the source, and no read failed
pub record TakesMany (P : ℕ → Type 0) (before after : Ends) : Type 0 where
  pub taken : TakesCount P before.left after.left
  pub no_fault : after.read_faults ≡ before.read_faults

-- nothing was written, and no write failed
pub record IsSilent (before after : Ends) : Type 0 where
  pub kept : Keeps before.written after.written
  pub no_fault : after.write_faults ≡ before.write_faults

-- the bytes are all that the source had, within the limit, and no read failed, and this is found of them
pub record Finds (before after : Ends) (found : Found) : Type 0 where
  pub bytes : List ℕ
  pub consumed : Consumes before.left after.left bytes
  pub ended : IsAtEnd after.left
  pub short : length bytes ≤ certificate_limit
  pub no_read_fault : after.read_faults ≡ before.read_faults
  pub is_found : IsFound bytes found

-- the line that is written of what is found: the answer
abbrev pub answer_line : Found → List ℕ
answer_line found = found_text found ++ codes "\n"

-- the source was read to its end, and the line of its answer was written whole
pub record WritesAnswer (before after : Ends) (found : Found) : Type 0 where
  pub finds : Finds before after found
  pub written : Appends before.written after.written (answer_line found)
  pub no_write_fault : after.write_faults ≡ before.write_faults

-- the source was read to its end, and a front of the line of its answer was written
pub record IsCutOff (before after : Ends) (found : Found) : Type 0 where
  pub finds : Finds before after found
  pub written : AppendsFront before.written after.written (answer_line found)

-- a read failed: no more than the limit had been taken, and nothing was written
pub record FailsToRead (before after : Ends) : Type 0 where
  pub fault : before.read_faults < after.read_faults
  pub taken : TakesCount (λ n. n ≤ certificate_limit) before.left after.left
  pub silent : IsSilent before after

-- a write failed: a front of the line of the answer was written
pub record FailsToWrite (before after : Ends) : Type 0 where
  pub fault : before.write_faults < after.write_faults
  pub found : Found
  pub cut : IsCutOff before after found

-- memory lacked before there was an answer: no more than the limit had been taken, and nothing was written
pub record LacksMemoryEarly (before after : Ends) : Type 0 where
  pub taken : TakesMany (λ n. n ≤ certificate_limit) before after
  pub silent : IsSilent before after

-- memory lacked behind the answer: a front of its line was written, and no write failed
pub record LacksMemoryLate (before after : Ends) : Type 0 where
  pub found : Found
  pub cut : IsCutOff before after found
  pub no_write_fault : after.write_faults ≡ before.write_faults

-- What was read and written, for each status.
abbrev pub Outcome : Ends → Ends → Status → Type 0
Outcome before after Valid = (found : Found) × (is_valid found ≡ true) × WritesAnswer before after found
Outcome before after Invalid = (found : Found) × (is_valid found ≡ false) × WritesAnswer before after found
Outcome before after ReadFault = FailsToRead before after
Outcome before after TooLong = TakesMany (λ n. n ≡ certificate_limit + 1) before after × IsSilent before after
Outcome before after NoMemory = LacksMemoryEarly before after ⊎ LacksMemoryLate before after
Outcome before after WriteFault = FailsToWrite before after
Outcome before after BadWords = ⊥
