-- What the reply to each question of a job says is true, beyond what it is: of runs, tasks, audits, guarded runs,
-- certificates, explanations and replays. Of verdicts and signatures the clause of verdicts says so.
use Rattle.std.specs.Prelude.{◌≡◌, ◌≢◌, ◌↔◌, ◌⊎◌, ℕ, List, [], ◌∷◌, ◌++◌, map, length, Some, Ok, slice_get}
use Rattle.std.specs.List.{AllByRecursion, Contains}
use Rattle.cc_base.specs.declared.code.Code.TheVariants.{E37}
use Rattle.cc_base.specs.declared.device.DeviceDecl.{DeviceDecl}
use Rattle.cc_base.specs.declared.literal.Op.{Op}
use Rattle.cc_base.specs.Literals.{Literal}
use Rattle.cc_capture.specs.Sets.{Member}
use Rattle.cc_capture.specs.declared.var.Elem.{Elem}
use Rattle.cc_certificate_judging.specs.Answers.{ProvesType, IsFound}
use Rattle.cc_certificate_writing.specs.Certificates.{lines_text}
use Rattle.cc_core.specs.Programs.{Entry}
use Rattle.cc_device.specs.Declarations.{declared_devices}
use Rattle.cc_device.specs.Devices.{Devices}
use Rattle.cc_device.specs.Events.{Event, Operated, IsWellScoped}
use Rattle.cc_entry_laws.specs.PresentEntries.{CheckedEntry, program_entry}
use Rattle.cc_entry_laws.specs.PresentLinks.{Target, DefinitionOf, element_of, entry_in}
use Rattle.cc_explain.specs.Chains.{IsChain}
use Rattle.cc_job.specs.Jobs.{IsJob}
use Rattle.cc_job.specs.declared.job.Job.{Job}
use Rattle.cc_mnf.specs.ElaboratedModules.{device_names}
use Rattle.cc_policy.specs.Policies.{Decides}
use Rattle.cc_policy.specs.declared.policy.Decision.{Decision}
use Rattle.cc_policy.specs.declared.policy.Rule.{Rule}
use Rattle.cc_replay.specs.AnsweredRuns.{GoesOnTo, AnsweredRun, ending_after, trace_of as answered_trace, IsFirstDifference}
use Rattle.cc_replay.specs.declared.replaying.Replayed.TheVariants.{Agrees, Differs}
use Rattle.cc_replies.specs.ExplainReplies.{Explains}
use Rattle.cc_replies.specs.Outputs.{after_all}
use Rattle.cc_replies.specs.PolicyReplies.{Allows, IsPermitted}
use Rattle.cc_replies.specs.Replies.{IsAnswer}
use Rattle.cc_replies.specs.ReplyTexts.{Reply, Explanation, Derived, Audited, Guarded, GuardRefused, Explained, Replayed}
use Rattle.cc_replies.specs.Requests.{Question, ShowDerivation, RunDefinition, RunTasks, AuditDefinition, GuardDefinition}
use Rattle.cc_replies.specs.Requests.{ExplainDefinition, ReplayDefinition, Request, Ask, no_module}
use Rattle.cc_replies.specs.RunReplies.{declared_run, HasEntry, HaveEntries}
use Rattle.cc_answers.specs.Requests.{requests_of}
use Rattle.cc_runs.specs.Interleavings.{World, world_of, move_of, Turn, trace_of, own_events, Takes, IsAtRest}
use Rattle.cc_runs.specs.Interleavings.{Interleaving, interleave, report_of}
use Rattle.cc_runs.specs.Links.{program_start}
use Rattle.cc_runs.specs.Machine.{Configuration, step, Stuck}
use Rattle.cc_runs.specs.Runs.{Run, Ending, IsStopped}
use Rattle.cc_runs.specs.SafeRuns.{IsListed, IsAmong}
use Rattle.cc_verdicts.specs.ModuleVerdicts.{ModuleVerdict}
use Rattle.cc_verdicts.specs.PresentTexts.{Texts, AreVerdicts}
use Rattle.cc_verdicts.specs.StandingDefinitions.{Standing, standing_names, standing_in}
use Rattle.cc_words.specs.Lines.{lines_of}
use Rattle.cc_sound_laws.specs.RunningTogether.{RunTogether}

-- ---- runs and tasks
-- the events operate devices of this authority alone
abbrev pub OperateWithin : List ℕ → List Event → Type 0
OperateWithin authority events =
    (device : ℕ) (operation : Op) (literal : Literal) → IsAmong (Operated device operation literal) events
    → IsListed device authority

-- The run of an entry's program is safe. The program goes well by itself, whatever turns it takes; and the run does not
-- stop before its end, it operates devices of the entry's authority alone, and its events are well scoped.
pub record IsSafeRun (devices : List DeviceDecl) (entry : CheckedEntry) (it : Run) : Type 0 where
  pub goes_well : RunTogether (program_entry entry ∷ []) (declared_devices devices)
  pub not_stopped : it.ending ≢ IsStopped
  pub operates : OperateWithin entry.authority it.events
  pub scoped : IsWellScoped it.events

-- The interleaved run of the programs of entries is safe. They run together; what is taken are turns of theirs, all that
-- there is fuel for, unless each task of the schedule has come to its end; and no task stops before its end.
pub record IsSafeInterleaving (entries : List Entry) (devices : Devices) (schedule : List ℕ) (fuel : ℕ)
    (it : Interleaving) : Type 0 where
  pub together : RunTogether entries devices
  pub takes : Takes (world_of entries devices) it.turns it.last
  pub goes_on : (length it.turns ≡ fuel) ⊎ ((task : ℕ) → IsListed task schedule → IsAtRest (move_of it.last task))
  pub not_stopped : (task : ℕ) (entry : Entry) → slice_get entries task ≡ Some entry
      → (ending : Ending) × (steps : ℕ) × (slice_get (report_of it).ends task ≡ Some (ending, steps)) × (ending ≢ IsStopped)

-- ---- rules
-- the rules allow the module each device that the events operate, where devices have these names
abbrev pub OperateAllowed : List (List ℕ) → List Rule → List ℕ → List Event → Type 0
OperateAllowed names rules module_name events =
    (device : ℕ) (operation : Op) (literal : Literal) → IsAmong (Operated device operation literal) events
    → Allows names rules module_name device

-- The guarded run of an entry's program is safe, and permitted: the rules allow its module each device of its authority,
-- each that the run operates, and each that the program operates in any turns.
pub record IsGuardedRun (devices : List DeviceDecl) (rules : List Rule) (entry : CheckedEntry) (it : Run) : Type 0 where
  pub safe : IsSafeRun devices entry it
  pub permitted : IsPermitted (device_names devices) rules entry
  pub operated : OperateAllowed (device_names devices) rules entry.module_name it.events
  pub in_any_turns : (turns : List Turn) (now : World)
      → Takes (world_of (program_entry entry ∷ []) (declared_devices devices)) turns now
      → OperateAllowed (device_names devices) rules entry.module_name (own_events 0 (trace_of turns))

-- what is told of a device is what the rules decide for the module and the device's name
pub record IsDecided (names : List (List ℕ)) (rules : List Rule) (module_name : List ℕ) (told : ℕ × Decision) :
    Type 0 where
  pub name : List ℕ
  pub named : slice_get names told.0 ≡ Some name
  pub decides : Decides rules module_name name told.1

-- ---- explanations
-- There is an explanation of the element: with the first of the shortest chains that lead to it from another target.
abbrev pub HasLine : (Target → List Target) → Target → List Explanation → Elem → Type 0
HasLine entry from explanations element =
    (one : Explanation) × Contains explanations one × Explains entry from element one

-- These explain the signature of a definition where it stands: an element stands in its outermost set exactly where it has
-- an explanation, and also exactly where a chain of links leads to it.
pub record ExplainSet (devices : List DeviceDecl) (texts : Texts) (verdicts : List ℕ → ModuleVerdict)
    (module_name name : List ℕ) (it : Standing) (explanations : List Explanation) : Type 0 where
  pub lines : (element : Elem)
      → Member element it.definition.accepted.signature.set
      ↔ HasLine (entry_in devices texts verdicts) (DefinitionOf module_name name) explanations element
  pub chains : (element : Elem)
      → Member element it.definition.accepted.signature.set
      ↔ ((target : Target) × (chain : List Target) × (element_of target ≡ Some element)
      × IsChain (entry_in devices texts verdicts) (DefinitionOf module_name name) target chain)

-- ---- replays
-- The lines are the trace of a run of the entry's program with so much fuel, whose devices are answered from outside.
-- Whatever they were answered, it operates devices of the entry's authority alone, its events are well scoped, and nothing
-- that the program comes to is stuck.
pub record IsSafeTrace (devices : List DeviceDecl) (entry : CheckedEntry) (fuel : ℕ) (lines : List (List ℕ)) :
    Type 0 where
  pub it : AnsweredRun fuel (program_start (program_entry entry))
  pub is_trace : lines ≡ answered_trace (device_names devices) it
  pub operates : OperateWithin entry.authority it.events
  pub scoped : IsWellScoped it.events
  pub never_stuck : (now : Configuration) (steps : ℕ) (events : List Event)
      → GoesOnTo steps (program_start (program_entry entry)) events now → step now ≢ Stuck
  pub not_stopped : ending_after it ≢ IsStopped

-- ---- replies
-- that holds of each entry of the definition of these names
abbrev pub EachEntry : List DeviceDecl → Texts → (List ℕ → ModuleVerdict) → List ℕ → List ℕ → (CheckedEntry → Type 0)
    → Type 0
EachEntry devices texts verdicts module_name name holds =
    (entry : CheckedEntry) → HasEntry devices texts verdicts (module_name, name) entry → holds entry

-- What is answered to the question is true, where these rules are in force and present modules have these texts and
-- verdicts. Other answers say no more than they are.
abbrev pub IsTrueAnswer : List DeviceDecl → List Rule → Texts → (List ℕ → ModuleVerdict) → Question → Reply → Type 0
IsTrueAnswer devices rules texts verdicts (ShowDerivation module_name name) (Derived owner definition lines) =
    (it : Standing) → standing_in texts verdicts module_name name ≡ Ok it
    → IsFound (lines_text lines) (ProvesType (standing_names devices it) it.definition.accepted.signature)
IsTrueAnswer devices rules texts verdicts (RunDefinition module_name name fuel) reply =
    EachEntry devices texts verdicts module_name name (λ entry. IsSafeRun devices entry (declared_run devices fuel entry))
IsTrueAnswer devices rules texts verdicts (RunTasks fuel schedule tasks) reply =
    (entries : List CheckedEntry) → HaveEntries devices texts verdicts tasks entries
    → IsSafeInterleaving (map program_entry entries) (declared_devices devices) schedule fuel
    (interleave fuel schedule (world_of (map program_entry entries) (declared_devices devices)))
IsTrueAnswer devices rules texts verdicts (AuditDefinition module_name name) (Audited owner definition told) =
    AllByRecursion (IsDecided (device_names devices) rules module_name) told
IsTrueAnswer devices rules texts verdicts (GuardDefinition module_name name fuel) (Guarded _ _ _ _ _ _) =
    EachEntry devices texts verdicts module_name name
    (λ entry. IsGuardedRun devices rules entry (declared_run devices fuel entry))
IsTrueAnswer devices rules texts verdicts (GuardDefinition module_name name fuel) (GuardRefused owner definition E37) =
    EachEntry devices texts verdicts module_name name (λ entry. IsPermitted (device_names devices) rules entry → ⊥)
IsTrueAnswer devices rules texts verdicts (ExplainDefinition module_name name) (Explained owner definition told) =
    (it : Standing) → standing_in texts verdicts module_name name ≡ Ok it
    → ExplainSet devices texts verdicts module_name name it told
IsTrueAnswer devices rules texts verdicts (ReplayDefinition module_name name fuel text) (Replayed _ _ Agrees) =
    EachEntry devices texts verdicts module_name name (λ entry. IsSafeTrace devices entry fuel (lines_of text))
IsTrueAnswer devices rules texts verdicts (ReplayDefinition module_name name fuel text) (Replayed _ _ (Differs line)) =
    EachEntry devices texts verdicts module_name name
    (λ entry. IsFirstDifference (device_names devices) fuel (program_start (program_entry entry)) (lines_of text) line)
IsTrueAnswer devices rules texts verdicts question reply = Unit {0}

-- What is answered to each question of every job is true, in the state in which it is asked.
abbrev pub RepliesAreTrue : Type 0
RepliesAreTrue =
    (bytes : List ℕ) (job : Job) → IsJob bytes job → (before others : List Request) (question : Question)
    → requests_of job ≡ before ++ Ask question ∷ others → (verdicts : List ℕ → ModuleVerdict)
    → AreVerdicts job.devices (after_all no_module before).texts verdicts → (reply : Reply)
    → IsAnswer job.devices (after_all no_module before).rules (after_all no_module before).texts verdicts question reply
    → IsTrueAnswer job.devices (after_all no_module before).rules (after_all no_module before).texts verdicts question
    reply
