-- What a call of the program may do: what is read and written, and how many modules are judged, for each status.
use Rattle.std.specs.Prelude.{◌≡◌, ℕ, ◌+◌, ◌<◌, ◌≤◌, Bool, true, false, ◌⊎◌, List, [], length, Option}
use Rattle.std.specs.Io.KnownBytes.{Consumes, IsAtEnd, Keeps, Appends}
use Rattle.cc_io.specs.Wholes.{TakesCount, AppendsFront}
use Rattle.cc_job.specs.declared.job.Job.{Job}
use Rattle.cc_job.specs.Jobs.{IsJob, IsBadAt}
use Rattle.cc_replies.specs.Outputs.{IsOutput}
use Rattle.cc_replies.specs.Requests.{no_module}
use Rattle.cc_replies.specs.StaleModules.{AreStale}
use Rattle.cc_program.specs.declared.status.Status.{Status}
use Rattle.cc_program.specs.declared.status.Status.TheVariants as statuses
use Rattle.cc_answers.specs.Requests.{requests_of}

-- the greatest number of bytes of a job
abbrev pub job_limit : ℕ
job_limit = 4194304

-- the bytes that a source has left and those that a sink holds, where they tell them, how often each failed, and how
-- many modules were judged
pub record Ends : Type 0 where
  pub left : Option (List ℕ)
  pub read_faults : ℕ
  pub written : Option (List ℕ)
  pub write_faults : ℕ
  pub judged : ℕ

abbrev pub ends : Option (List ℕ) → ℕ → Option (List ℕ) → ℕ → ℕ → Ends
ends left read_faults written write_faults judged = record {
  left = left;
  read_faults = read_faults;
  written = written;
  write_faults = write_faults;
  judged = judged;
}

-- so many bytes were taken from the source, and no read failed
pub record TakesMany (P : ℕ → Type 0) (before after : Ends) : Type 0 where
  pub taken : TakesCount P before.left after.left
  pub no_fault : after.read_faults ≡ before.read_faults

-- nothing was written, no write failed, and no module was judged
pub record IsSilent (before after : Ends) : Type 0 where
  pub kept : Keeps before.written after.written
  pub no_fault : after.write_faults ≡ before.write_faults
  pub none_judged : after.judged ≡ before.judged

-- the bytes are all that the source had, within the limit, and no read failed
pub record ReadsWhole (before after : Ends) (bytes : List ℕ) : Type 0 where
  pub consumed : Consumes before.left after.left bytes
  pub ended : IsAtEnd after.left
  pub short : length bytes ≤ job_limit
  pub no_fault : after.read_faults ≡ before.read_faults

-- the source had the text of a job, whole
pub record ReadsJob (before after : Ends) (job : Job) : Type 0 where
  pub bytes : List ℕ
  pub whole : ReadsWhole before after bytes
  pub is_job : IsJob bytes job

-- modules were judged, at most as many as the commands of the job find stale, all their checks together
pub record JudgesStale (before after : Ends) (job : Job) : Type 0 where
  pub sum : ℕ
  pub stale : AreStale job.devices no_module [] (requests_of job) sum
  pub few : after.judged ≤ before.judged + sum

-- the job was read, and its whole output was written
pub record IsCarriedOut (before after : Ends) (job : Job) (refused : Bool) : Type 0 where
  pub read : ReadsJob before after job
  pub text : List ℕ
  pub output : IsOutput job.devices no_module (requests_of job) text refused
  pub written : Appends before.written after.written text
  pub no_fault : after.write_faults ≡ before.write_faults
  pub judges : JudgesStale before after job

-- the same, but a front of its output was written
pub record IsCutOff (before after : Ends) (job : Job) : Type 0 where
  pub read : ReadsJob before after job
  pub text : List ℕ
  pub refused : Bool
  pub output : IsOutput job.devices no_module (requests_of job) text refused
  pub written : AppendsFront before.written after.written text
  pub judges : JudgesStale before after job

-- the source had bytes that are no job, by this line of them, and nothing was written
pub record ReadsNoJob (before after : Ends) (number : ℕ) : Type 0 where
  pub bytes : List ℕ
  pub whole : ReadsWhole before after bytes
  pub no_job : IsBadAt bytes number
  pub silent : IsSilent before after

-- a read failed: no more than the limit had been taken, and nothing was written
pub record FailsToRead (before after : Ends) : Type 0 where
  pub fault : before.read_faults < after.read_faults
  pub taken : TakesCount (λ n. n ≤ job_limit) before.left after.left
  pub silent : IsSilent before after

-- a write failed: the job had been read, and a front of its output was written
pub record FailsToWrite (before after : Ends) (job : Job) : Type 0 where
  pub fault : before.write_faults < after.write_faults
  pub cut : IsCutOff before after job

-- memory lacked before a job was read: no more than the limit had been taken, and nothing was written
pub record LacksMemoryEarly (before after : Ends) : Type 0 where
  pub taken : TakesMany (λ n. n ≤ job_limit) before after
  pub silent : IsSilent before after

-- memory lacked behind the reading of the job: a front of its output was written, and no write failed
pub record LacksMemoryLate (before after : Ends) (job : Job) : Type 0 where
  pub cut : IsCutOff before after job
  pub no_fault : after.write_faults ≡ before.write_faults

-- What was read and written, and how many modules were judged, for each status.
abbrev pub Outcome : Ends → Ends → Status → Type 0
Outcome before after statuses.Clean = (job : Job) × IsCarriedOut before after job false
Outcome before after statuses.Refusals = (job : Job) × IsCarriedOut before after job true
Outcome before after (statuses.BadJob number) = ReadsNoJob before after number
Outcome before after statuses.ReadFault = FailsToRead before after
Outcome before after statuses.WriteFault = (job : Job) × FailsToWrite before after job
Outcome before after statuses.NoMemory =
    LacksMemoryEarly before after ⊎ ((job : Job) × LacksMemoryLate before after job)
Outcome before after statuses.BadWords = ⊥
Outcome before after statuses.TooLong = TakesMany (λ n. n ≡ job_limit + 1) before after × IsSilent before after
