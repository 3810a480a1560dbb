-- What replies to several commands about one definition have to do with each other, and with the definition's entry.
use Rattle.std.specs.Prelude.{◌≡◌, ◌↔◌, ◌⊎◌, ℕ, false, List, [], ◌∷◌, map, Some, IsTrue, slice_get}
use Rattle.std.specs.List.{AllByRecursion}
use Rattle.cc_base.specs.declared.code.Code.TheVariants.{E37}
use Rattle.cc_base.specs.declared.device.DeviceDecl.{DeviceDecl}
use Rattle.cc_device.specs.Events.{Event}
use Rattle.cc_job.specs.Jobs.{IsJob}
use Rattle.cc_job.specs.declared.job.Job.{Job}
use Rattle.cc_entry_laws.specs.PresentEntries.{CheckedEntry, program_entry}
use Rattle.cc_verdicts.specs.ModuleVerdicts.{ModuleVerdict}
use Rattle.cc_verdicts.specs.PresentTexts.{Texts, ArePresent, AreVerdicts}
use Rattle.cc_runs.specs.Links.{program_start}
use Rattle.cc_runs.specs.Runs.{Ending}
use Rattle.cc_mnf.specs.ElaboratedModules.{device_names}
use Rattle.cc_policy.specs.declared.policy.Decision.{Decision}
use Rattle.cc_policy.specs.declared.policy.Rule.{Rule}
use Rattle.cc_policy.specs.Policies.{Decides}
use Rattle.cc_replay.specs.AnsweredRuns.{AnsweredRun, trace_lines, trace_of, IsFirstDifference}
use Rattle.cc_replay.specs.ReplayLaws.{written_lines}
use Rattle.cc_replay.specs.declared.replaying.Replayed.{Replayed as Outcome}
use Rattle.cc_replay.specs.declared.replaying.Replayed.TheVariants.{Agrees, Differs}
use Rattle.cc_replies.specs.Replies.{Replies}
use Rattle.cc_replies.specs.ReplyTexts.{Reply, Ran, Audited, Guarded, GuardRefused, Replayed}
use Rattle.cc_replies.specs.Requests.{JobState, RunDefinition, AuditDefinition, GuardDefinition, ReplayDefinition, Ask}
use Rattle.cc_replies.specs.RunReplies.{HasEntry}
use Rattle.cc_words.specs.Lines.{lines_of}

-- where these texts are present, this is the entry of the definition
pub record HasPresentEntry (devices : List DeviceDecl) (texts : Texts) (module_name name : List ℕ)
    (entry : CheckedEntry) : Type 0 where
  pub verdicts : List ℕ → ModuleVerdict
  pub are : AreVerdicts devices texts verdicts
  pub has : HasEntry devices texts verdicts (module_name, name) entry

-- AUDITS

-- The lines of an audit are one for each of these devices, in order: the device, and what the rules decide for the module
-- and the name with which the device is declared.
abbrev pub AreDecided : List (List ℕ) → List Rule → List ℕ → List ℕ → List (ℕ × Decision) → Type 0
AreDecided names rules module_name [] lines = lines ≡ []
AreDecided names rules module_name (device ∷ devices) lines =
    (name : List ℕ) × (decision : Decision) × (later : List (ℕ × Decision)) × (slice_get names device ≡ Some name)
    × Decides rules module_name name decision × AreDecided names rules module_name devices later
    × (lines ≡ (device, decision) ∷ later)

-- A reply that tells of an audit tells, under the names that were asked for, what the rules in force decide for the
-- devices of the authority of the definition's entry.
abbrev pub AuditsTellDecisions : Type 0
AuditsTellDecisions =
    (devices : List DeviceDecl) (state : JobState) (module_name name owner definition : List ℕ)
    (lines : List (ℕ × Decision))
    → Replies devices state (Ask (AuditDefinition module_name name)) (Audited owner definition lines)
    → (owner ≡ module_name) × (definition ≡ name)
    × ((entry : CheckedEntry) × HasPresentEntry devices state.texts module_name name entry
    × AreDecided (device_names devices) state.rules module_name entry.authority lines)

-- And where a definition has an entry, its audit is answered by all that is decided so.
abbrev pub DecisionsAreTold : Type 0
DecisionsAreTold =
    (devices : List DeviceDecl) (state : JobState) (module_name name : List ℕ) (entry : CheckedEntry)
    (lines : List (ℕ × Decision)) → HasPresentEntry devices state.texts module_name name entry
    → AreDecided (device_names devices) state.rules module_name entry.authority lines
    → Replies devices state (Ask (AuditDefinition module_name name)) (Audited module_name name lines)

-- GUARDS

-- each line of an audit allows
abbrev pub AllAllow : List (ℕ × Decision) → Type 0
AllAllow lines = AllByRecursion (λ line. IsTrue line.1.allow) lines

-- one of the lines denies
abbrev pub OneDenies : List (ℕ × Decision) → Type 0
OneDenies [] = ⊥
OneDenies (line ∷ lines) = (line.1.allow ≡ false) ⊎ OneDenies lines

-- The reply tells of a run of the definition under a guard, with these devices as its authority.
abbrev pub TellsOfGuardedRun : List ℕ → List ℕ → List ℕ → Reply → Type 0
TellsOfGuardedRun module_name name authority reply =
    (events : List Event) × (ending : Ending) × (steps : ℕ)
    × (reply ≡ Guarded module_name name authority events ending steps)

-- In one state a definition is run under a guard exactly where each line of its audit allows, with the devices of the lines
-- as its authority, and that is refused exactly where one of them denies.
abbrev pub GuardsFollowAudits : Type 0
GuardsFollowAudits =
    (devices : List DeviceDecl) (state : JobState) → ArePresent state.texts
    → (module_name name owner definition : List ℕ) (lines : List (ℕ × Decision)) (fuel : ℕ) (reply : Reply)
    → Replies devices state (Ask (AuditDefinition module_name name)) (Audited owner definition lines)
    → Replies devices state (Ask (GuardDefinition module_name name fuel)) reply
    → (AllAllow lines ↔ TellsOfGuardedRun module_name name (map (λ line. line.0) lines) reply)
    × (OneDenies lines ↔ (reply ≡ GuardRefused module_name name E37))

-- What is shown of a guarded run is what is shown of a run of the definition with the same fuel where the same texts are
-- present, whatever the rules.
abbrev pub GuardsShowRuns : Type 0
GuardsShowRuns =
    (devices : List DeviceDecl) (state other : JobState) → other.texts ≡ state.texts
    → (module_name name owner definition : List ℕ) (fuel : ℕ) (authority : List ℕ) (events : List Event)
    (ending : Ending) (steps : ℕ)
    → Replies devices state (Ask (GuardDefinition module_name name fuel))
    (Guarded owner definition authority events ending steps)
    → Replies devices other (Ask (RunDefinition module_name name fuel))
    (Ran module_name name authority events ending steps)

-- And what is shown of a run is what is shown under a guard, where each line of an audit allows.
abbrev pub AllowedRunsAreGuarded : Type 0
AllowedRunsAreGuarded =
    (devices : List DeviceDecl) (state : JobState) → ArePresent state.texts
    → (module_name name owner definition audited_owner audited_definition : List ℕ) (lines : List (ℕ × Decision))
    (fuel : ℕ) (authority : List ℕ) (events : List Event) (ending : Ending) (steps : ℕ)
    → Replies devices state (Ask (AuditDefinition module_name name)) (Audited audited_owner audited_definition lines)
    → AllAllow lines
    → Replies devices state (Ask (RunDefinition module_name name fuel))
    (Ran owner definition authority events ending steps)
    → Replies devices state (Ask (GuardDefinition module_name name fuel))
    (Guarded module_name name authority events ending steps)

-- REPLAYS

-- A reply that tells what comes of comparing lines tells it under the names that were asked for, and the definition has an
-- entry.
abbrev pub ReplaysHaveEntries : Type 0
ReplaysHaveEntries =
    (devices : List DeviceDecl) (state : JobState) (module_name name owner definition : List ℕ) (fuel : ℕ)
    (text : List ℕ) (outcome : Outcome)
    → Replies devices state (Ask (ReplayDefinition module_name name fuel text)) (Replayed owner definition outcome)
    → (owner ≡ module_name) × (definition ≡ name)
    × ((entry : CheckedEntry) × HasPresentEntry devices state.texts module_name name entry)

-- Where the definition has this entry, the reply says that the lines of the text agree exactly where they are the trace of
-- a run of the entry's program with so much fuel whose devices are answered from outside. It says that they differ at a
-- line exactly where such a trace begins with the lines before it, and none goes on with it too, or where that line is
-- missing, none ends there. It says one of these.
abbrev pub ReplaysCompareTraces : Type 0
ReplaysCompareTraces =
    (devices : List DeviceDecl) (state : JobState) → ArePresent state.texts
    → (module_name name : List ℕ) (entry : CheckedEntry) → HasPresentEntry devices state.texts module_name name entry
    → (fuel : ℕ) (text : List ℕ) (reply : Reply)
    → Replies devices state (Ask (ReplayDefinition module_name name fuel text)) reply
    → ((reply ≡ Replayed module_name name Agrees)
    ↔ ((it : AnsweredRun fuel (program_start (program_entry entry)))
    × (lines_of text ≡ trace_of (device_names devices) it)))
    × ((line : ℕ) → (reply ≡ Replayed module_name name (Differs line))
    ↔ IsFirstDifference (device_names devices) fuel (program_start (program_entry entry)) (lines_of text) line)
    × ((reply ≡ Replayed module_name name Agrees)
    ⊎ ((line : ℕ) × (reply ≡ Replayed module_name name (Differs line))))

-- What a job shows of a run under a guard, its events and its end as lines, each with a line feed, agrees when it is
-- replayed with the same fuel while the same texts are present.
abbrev pub ShownGuardedRunsAreReplayed : Type 0
ShownGuardedRunsAreReplayed =
    (bytes : List ℕ) (job : Job) → IsJob bytes job → (state other : JobState) → ArePresent state.texts
    → other.texts ≡ state.texts
    → (module_name name owner definition : List ℕ) (fuel : ℕ) (authority : List ℕ) (events : List Event)
    (ending : Ending) (steps : ℕ)
    → Replies job.devices state (Ask (GuardDefinition module_name name fuel))
    (Guarded owner definition authority events ending steps)
    → (reply : Reply)
    → Replies job.devices other
    (Ask (ReplayDefinition module_name name fuel
    (written_lines (trace_lines (device_names job.devices) events ending steps)))) reply
    → reply ≡ Replayed module_name name Agrees
