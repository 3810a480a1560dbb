-- What is said of lines that agree with a definition is so, and the lines of a run that was shown agree.
use Rattle.std.specs.Prelude.{◌≡◌, ◌≢◌, ℕ, List}
use Rattle.cc_base.specs.Literals.{Literal}
use Rattle.cc_base.specs.declared.device.DeviceDecl.{DeviceDecl}
use Rattle.cc_base.specs.declared.literal.Op.{Op}
use Rattle.cc_device.specs.Events.{Event, Operated, IsWellScoped}
use Rattle.cc_job.specs.Jobs.{IsJob}
use Rattle.cc_job.specs.declared.job.Job.{Job}
use Rattle.cc_entry_laws.specs.PresentEntries.{CheckedEntry, program_entry}
use Rattle.cc_verdicts.specs.ModuleLaws.{NamesOfDevicesDiffer}
use Rattle.cc_verdicts.specs.ModuleVerdicts.{ModuleVerdict}
use Rattle.cc_verdicts.specs.PresentTexts.{Texts, ArePresent, AreVerdicts}
use Rattle.cc_runs.specs.Links.{program_start}
use Rattle.cc_runs.specs.Machine.{Configuration, step, Stuck}
use Rattle.cc_runs.specs.Runs.{Ending, IsStopped}
use Rattle.cc_runs.specs.SafeRuns.{IsListed, IsAmong}
use Rattle.cc_mnf.specs.ElaboratedModules.{device_names}
use Rattle.cc_replay.specs.AnsweredRuns.{GoesOnTo, AnsweredRun, ending_after, trace_lines, trace_of, IsFirstDifference}
use Rattle.cc_replay.specs.ReplayLaws.{written_lines}
use Rattle.cc_replay.specs.declared.replaying.Replayed.TheVariants.{Agrees, Differs}
use Rattle.cc_replies.specs.Replies.{Replies}
use Rattle.cc_replies.specs.ReplyTexts.{Reply, Ran, Replayed}
use Rattle.cc_replies.specs.Requests.{JobState, RunDefinition, ReplayDefinition, Ask}
use Rattle.cc_replies.specs.RunReplies.{HasEntry}
use Rattle.cc_words.specs.Lines.{lines_of}
use Rattle.cc_program.specs.SoundJobs.{NamesDefinition}

-- The lines of the text are the trace of a run of the program of the entry of the definition of these names, with so much
-- fuel, whose devices are answered from outside. Whatever they were answered, it operates devices of the entry's
-- authority alone, its events are well scoped, and nothing that the program comes to is stuck.
pub record IsSafeTraceOf (devices : List DeviceDecl) (texts : Texts) (module_name name : List ℕ) (fuel : ℕ)
    (text : List ℕ) : Type 0 where
  -- the present modules have these verdicts
  pub verdicts : List ℕ → ModuleVerdict
  pub are : AreVerdicts devices texts verdicts
  -- by which this is the entry of the definition
  pub entry : CheckedEntry
  pub of_definition : HasEntry devices texts verdicts (module_name, name) entry
  -- and this a run of its program
  pub it : AnsweredRun fuel (program_start (program_entry entry))
  pub is_trace : lines_of text ≡ trace_of (device_names devices) it
  pub authority : (device : ℕ) (operation : Op) (literal : Literal)
      → IsAmong (Operated device operation literal) it.events → IsListed device entry.authority
  pub scopes : IsWellScoped it.events
  pub never_stuck : (now : Configuration) (steps : ℕ) (events : List Event)
      → GoesOnTo steps (program_start (program_entry entry)) events now → step now ≢ Stuck
  pub not_stopped : ending_after it ≢ IsStopped

-- Each reply that says that lines agree says so of such a trace, of the definition that is asked for.
abbrev pub AgreeingTracesKeepTheAuthority : Type 0
AgreeingTracesKeepTheAuthority =
    (devices : List DeviceDecl) (state : JobState) → NamesOfDevicesDiffer devices → ArePresent state.texts
    → (module_name name owner definition : List ℕ) (fuel : ℕ) (text : List ℕ)
    → Replies devices state (Ask (ReplayDefinition module_name name fuel text)) (Replayed owner definition Agrees)
    → NamesDefinition owner definition module_name name
    × IsSafeTraceOf devices state.texts module_name name fuel text

-- With the program of the entry of the definition of these names, the lines of the text first differ from every trace at
-- this one: a trace of a run with so much fuel, whose devices are answered from outside, begins with the lines before it,
-- and none goes on with it.
pub record DiffersFirst (devices : List DeviceDecl) (texts : Texts) (module_name name : List ℕ) (fuel : ℕ)
    (text : List ℕ) (line : ℕ) : Type 0 where
  -- the present modules have these verdicts
  pub verdicts : List ℕ → ModuleVerdict
  pub are : AreVerdicts devices texts verdicts
  -- by which this is the entry of the definition
  pub entry : CheckedEntry
  pub of_definition : HasEntry devices texts verdicts (module_name, name) entry
  -- and with its program this is the first difference
  pub first : IsFirstDifference (device_names devices) fuel (program_start (program_entry entry)) (lines_of text) line

-- Each reply that says that lines differ says so of the first line that does, with the definition that is asked for.
abbrev pub DifferencesAreFirst : Type 0
DifferencesAreFirst =
    (devices : List DeviceDecl) (state : JobState)
    → (module_name name owner definition : List ℕ) (fuel : ℕ) (text : List ℕ) (line : ℕ)
    → Replies devices state (Ask (ReplayDefinition module_name name fuel text)) (Replayed owner definition (Differs line))
    → NamesDefinition owner definition module_name name
    × DiffersFirst devices state.texts module_name name fuel text line

-- What a job shows of a run, its events and its end as lines, each with a line feed, agrees when it is replayed with the
-- same fuel while the same texts are present.
abbrev pub ShownRunsAreReplayed : Type 0
ShownRunsAreReplayed =
    (bytes : List ℕ) (job : Job) → IsJob bytes job → (state other : JobState) → ArePresent state.texts
    → other.texts ≡ state.texts
    → (module_name name owner definition : List ℕ) (fuel : ℕ) (authority : List ℕ) (events : List Event)
    (ending : Ending) (steps : ℕ)
    → Replies job.devices state (Ask (RunDefinition module_name name fuel))
    (Ran owner definition authority events ending steps)
    → (reply : Reply)
    → Replies job.devices other
    (Ask (ReplayDefinition module_name name fuel
    (written_lines (trace_lines (device_names job.devices) events ending steps)))) reply
    → reply ≡ Replayed module_name name Agrees
