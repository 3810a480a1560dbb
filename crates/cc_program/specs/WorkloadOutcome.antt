-- What a call of the program that carries a workload out may do: what is written, and how many modules are judged, for
-- each status.
use Rattle.std.specs.Prelude.{◌≡◌, ℕ, ◌<◌, false, List}
use Rattle.std.specs.Io.KnownBytes.{Appends}
use Rattle.cc_io.specs.Wholes.{AppendsFront}
use Rattle.cc_replies.specs.Outputs.{IsOutput}
use Rattle.cc_replies.specs.Requests.{no_module}
use Rattle.cc_summary.specs.Summaries.{summary_text}
use Rattle.cc_workload.specs.Workloads.{workload}
use Rattle.cc_program.specs.declared.status.Status.{Status}
use Rattle.cc_program.specs.declared.status.Status.TheVariants as statuses
use Rattle.cc_program.specs.Outcome.{Ends, JudgesStale}
use Rattle.cc_answers.specs.Requests.{requests_of}

-- the text is the whole output of the workload's job, of whose replies none tells of a refusal
abbrev pub IsOutputOf : ℕ → List ℕ → Type 0
IsOutputOf number text =
    IsOutput (workload number).devices no_module (requests_of (workload number)) text false

-- the workload's job was carried out, and the summary of its output was written
pub record IsSummarized (before after : Ends) (number : ℕ) : Type 0 where
  pub text : List ℕ
  pub output : IsOutputOf number text
  pub written : Appends before.written after.written (summary_text number text)
  pub no_fault : after.write_faults ≡ before.write_faults
  pub judges : JudgesStale before after (workload number)

-- the same, but a front of the summary was written
pub record IsSummaryCutOff (before after : Ends) (number : ℕ) : Type 0 where
  pub text : List ℕ
  pub output : IsOutputOf number text
  pub written : AppendsFront before.written after.written (summary_text number text)
  pub judges : JudgesStale before after (workload number)

-- a write failed: a front of the summary was written
pub record FailsToSummarize (before after : Ends) (number : ℕ) : Type 0 where
  pub fault : before.write_faults < after.write_faults
  pub cut : IsSummaryCutOff before after number

-- memory lacked: a front of the summary was written, and no write failed
pub record LacksMemoryToSummarize (before after : Ends) (number : ℕ) : Type 0 where
  pub cut : IsSummaryCutOff before after number
  pub no_fault : after.write_faults ≡ before.write_faults

-- What was written, and how many modules were judged, for each status: there is no job to be read, so none is bad, and no
-- reply tells of a refusal.
abbrev pub WorkloadOutcome : Ends → Ends → ℕ → Status → Type 0
WorkloadOutcome before after number statuses.Clean = IsSummarized before after number
WorkloadOutcome before after number statuses.Refusals = ⊥
WorkloadOutcome before after number (statuses.BadJob line) = ⊥
WorkloadOutcome before after number statuses.ReadFault = ⊥
WorkloadOutcome before after number statuses.WriteFault = FailsToSummarize before after number
WorkloadOutcome before after number statuses.NoMemory = LacksMemoryToSummarize before after number
WorkloadOutcome before after number statuses.BadWords = ⊥
WorkloadOutcome before after number statuses.TooLong = ⊥
