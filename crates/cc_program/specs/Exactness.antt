-- Each answer comes exactly where its cause is: what the outcome of a call says of a source that tells its bytes.
use Rattle.std.specs.Prelude.{◌≡◌, ◌↔◌, ℕ, ◌+◌, ◌<◌, ◌≤◌, ◌⊎◌, Bool, true, false, List, [], length, Some}
use Rattle.std.specs.Io.KnownBytes.{Keeps}
use Rattle.cc_io.specs.Wholes.{AppendsFront}
use Rattle.cc_job.specs.declared.job.Job.{Job}
use Rattle.cc_job.specs.Jobs.{IsJob, IsBadAt}
use Rattle.cc_replies.specs.Outputs.{IsOutput}
use Rattle.cc_replies.specs.Requests.{no_module}
use Rattle.cc_program.specs.declared.status.Status.{Status}
use Rattle.cc_program.specs.declared.status.Status.TheVariants as statuses
use Rattle.cc_answers.specs.Requests.{requests_of}
use Rattle.cc_program.specs.Outcome.{job_limit, Ends, IsSilent, ReadsJob, JudgesStale, IsCarriedOut, Outcome}
use Rattle.cc_program.specs.WorkloadOutcome.{IsSummarized, IsSummaryCutOff, WorkloadOutcome}

-- how a call ends that carried the job out, where a reply is a refusal or none is
abbrev pub status_of : Bool → Status
status_of true = statuses.Refusals
status_of false = statuses.Clean

-- the source tells these bytes, and no read and no write failed
pub record IsFaultless (before after : Ends) (bytes : List ℕ) : Type 0 where
  pub told : before.left ≡ Some bytes
  pub no_read_fault : after.read_faults ≡ before.read_faults
  pub no_write_fault : after.write_faults ≡ before.write_faults

-- memory lacked, and nothing was written
abbrev pub IsSilentForMemory : Ends → Ends → Status → Type 0
IsSilentForMemory before after status = (status ≡ statuses.NoMemory) × IsSilent before after

-- a front of the job's output was written
pub record WritesFront (before after : Ends) (job : Job) : Type 0 where
  pub text : List ℕ
  pub refused : Bool
  pub output : IsOutput job.devices no_module (requests_of job) text refused
  pub written : AppendsFront before.written after.written text

-- memory lacked, and a front of the job's output was written
abbrev pub IsCutOffForMemory : Ends → Ends → Job → Status → Type 0
IsCutOffForMemory before after job status = (status ≡ statuses.NoMemory) × WritesFront before after job

-- A job within the limit is carried out, its output written whole, unless memory lacks: then a front of it is written.
abbrev pub AJobIsAnswered : Type 0
AJobIsAnswered = (before after : Ends) (status : Status) (bytes : List ℕ) (job : Job)
    → IsFaultless before after bytes → length bytes ≤ job_limit → IsJob bytes job
    → Outcome before after status
    → ((refused : Bool) × IsCarriedOut before after job refused × (status ≡ status_of refused))
    ⊎ IsCutOffForMemory before after job status

-- Bytes within the limit that are no job are refused as such, by their bad line, unless memory lacks, and nothing is
-- written.
abbrev pub WhatIsNoJobIsRefused : Type 0
WhatIsNoJobIsRefused = (before after : Ends) (status : Status) (bytes : List ℕ)
    → IsFaultless before after bytes → length bytes ≤ job_limit → ((job : Job) → IsJob bytes job → ⊥)
    → Outcome before after status
    → ((number : ℕ) × IsBadAt bytes number × (status ≡ statuses.BadJob number) × IsSilent before after)
    ⊎ IsSilentForMemory before after status

-- more bytes than the limit are refused as too long, unless memory lacks, and nothing is written
abbrev pub WhatIsTooLongIsRefused : Type 0
WhatIsTooLongIsRefused = (before after : Ends) (status : Status) (bytes : List ℕ)
    → IsFaultless before after bytes → job_limit < length bytes → Outcome before after status
    → ((status ≡ statuses.TooLong) × IsSilent before after) ⊎ IsSilentForMemory before after status

-- Whatever the streams tell: a read failed exactly where the status says so, and so did a write.
abbrev pub AFaultIsTold : Type 0
AFaultIsTold = (before after : Ends) (status : Status) → Outcome before after status
    → ((before.read_faults < after.read_faults) ↔ (status ≡ statuses.ReadFault))
    × ((before.write_faults < after.write_faults) ↔ (status ≡ statuses.WriteFault))

-- Whatever the streams tell: nothing is written but a front of the output of the job that was read.
abbrev pub OnlyTheOutputIsWritten : Type 0
OnlyTheOutputIsWritten = (before after : Ends) (status : Status) → Outcome before after status
    → Keeps before.written after.written ⊎ ((job : Job) × ReadsJob before after job × WritesFront before after job)

-- Whatever the streams tell: no module is judged, or at most as many as the commands of the job that was read find
-- stale.
abbrev pub OnlyStaleModulesAreJudged : Type 0
OnlyStaleModulesAreJudged = (before after : Ends) (status : Status) → Outcome before after status
    → (after.judged ≡ before.judged) ⊎ ((job : Job) × ReadsJob before after job × JudgesStale before after job)

-- Where no write failed, the summary of a workload is written whole, unless memory lacks: then a front of it is written.
abbrev pub AWorkloadIsSummarized : Type 0
AWorkloadIsSummarized = (before after : Ends) (number : ℕ) (status : Status)
    → WorkloadOutcome before after number status → after.write_faults ≡ before.write_faults
    → ((status ≡ statuses.Clean) × IsSummarized before after number)
    ⊎ ((status ≡ statuses.NoMemory) × IsSummaryCutOff before after number)

-- With a workload a write failed exactly where the status says so. No job is bad or too long, and no read fails.
abbrev pub AFaultOfAWorkloadIsTold : Type 0
AFaultOfAWorkloadIsTold = (before after : Ends) (number : ℕ) (status : Status)
    → WorkloadOutcome before after number status
    → ((before.write_faults < after.write_faults) ↔ (status ≡ statuses.WriteFault))
    × ((line : ℕ) → status ≡ statuses.BadJob line → ⊥) × (status ≡ statuses.ReadFault → ⊥)
    × (status ≡ statuses.TooLong → ⊥)
