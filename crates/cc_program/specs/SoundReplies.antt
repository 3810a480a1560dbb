-- What each reply of a job says is so: of verdicts, signatures and derivations, of runs, tasks and guarded runs, of audits,
-- explanations, replays and certificates.
use Rattle.std.specs.Prelude.{◌≡◌, ℕ, Bool, List, [], ◌∷◌, ◌++◌, map, length, Some, Err, slice_get}
use Rattle.std.specs.List.{AllByRecursion}
use Rattle.cc_base.specs.declared.code.Code.{Code}
use Rattle.cc_base.specs.declared.code.Code.TheVariants.{E37}
use Rattle.cc_base.specs.declared.device.DeviceDecl.{DeviceDecl}
use Rattle.cc_base.specs.declared.place.Place.{Place}
use Rattle.cc_certificate_judging.specs.Answers.{Found, IsFound}
use Rattle.cc_certificate_writing.specs.Certificates.{lines_text}
use Rattle.cc_entry_laws.specs.PresentEntries.{CheckedEntry, started_in}
use Rattle.cc_entry_laws.specs.PresentFiles.{IsCodeOfDefinition, HasItsTypes, HasNoType, HasRefused, HasAccepted}
use Rattle.cc_job.specs.Jobs.{IsJob}
use Rattle.cc_job.specs.declared.job.Job.{Job}
use Rattle.cc_mnf.specs.ElaboratedModules.{device_names}
use Rattle.cc_policy.specs.declared.policy.Decision.{Decision}
use Rattle.cc_policy.specs.declared.policy.Rule.{Rule}
use Rattle.cc_policy.specs.Policies.{Decides}
use Rattle.cc_replay.specs.declared.replaying.Replayed.TheVariants.{Agrees, Differs}
use Rattle.cc_replies.specs.Outputs.{IsOutput}
use Rattle.cc_replies.specs.Replies.{Replies, after}
use Rattle.cc_replies.specs.ReplyTexts.{Reply, Verified, Verdicts, Signatures, SignaturesRefused, Derived}
use Rattle.cc_replies.specs.ReplyTexts.{DerivationRefused, Ran, RunRefused, TasksRan, TasksRefused, Audited, AuditRefused}
use Rattle.cc_replies.specs.ReplyTexts.{Guarded, GuardRefused, Explained, ExplainRefused, Replayed, ReplayRefused}
use Rattle.cc_replies.specs.ReplyTexts.{reply_text}
use Rattle.cc_replies.specs.Requests.{Question, CheckModules, ShowSignature, ShowDerivation, RunDefinition, RunTasks}
use Rattle.cc_replies.specs.Requests.{AuditDefinition, GuardDefinition, ExplainDefinition, ReplayDefinition}
use Rattle.cc_replies.specs.Requests.{Request, PutText, DropModule, SetPolicy, VerifyText, Ask, JobState, no_module}
use Rattle.cc_replies.specs.RunReplies.{HasEntry}
use Rattle.cc_answers.specs.Requests.{requests_of}
use Rattle.cc_verdicts.specs.ModuleVerdicts.{CheckedDefinition, ModuleVerdict, IsAccepted, IsRefused, to_be_checked}
use Rattle.cc_verdicts.specs.PresentTexts.{Texts, AreVerdicts}
use Rattle.cc_program.specs.ExplainedSignatures.{ExplainsSignature}
use Rattle.cc_program.specs.GuardedRuns.{IsShownGuardedRun, IsNotPermitted}
use Rattle.cc_program.specs.ReplayedRuns.{IsSafeTraceOf, DiffersFirst}
use Rattle.cc_program.specs.SoundJobs.{NamesDefinition, IsShownRun, AreShownTasks}
use Rattle.cc_program.specs.TrueReplies.{IsDecided}
use Rattle.cc_program.specs.VerifiedTexts.{SaysSignature}

-- ---- verdicts and signatures
-- A definition that is shown as one of an accepted module is judged so, and has its types by the rules of the calculus.
pub record IsShownDefinition (devices : List DeviceDecl) (texts : Texts) (verdicts : List ℕ → ModuleVerdict)
    (module_name : List ℕ) (shown : CheckedDefinition) : Type 0 where
  pub judged : HasAccepted devices texts verdicts module_name shown
  pub typed : HasItsTypes judged.globals (to_be_checked judged.definition) shown.accepted

-- A definition of a module that is refused with a code for definitions is judged so, and has no type by the algorithm,
-- whatever is put in for omitted sets.
pub record IsShownRefusal (devices : List DeviceDecl) (texts : Texts) (verdicts : List ℕ → ModuleVerdict)
    (module_name : List ℕ) (code : Code) (at : Place) : Type 0 where
  pub judged : HasRefused devices texts verdicts module_name code at
  pub untyped : HasNoType (length devices) judged.globals (to_be_checked judged.definition) code

-- what a verdict of the module says of definitions is so
abbrev pub SaysOfModule : List DeviceDecl → Texts → (List ℕ → ModuleVerdict) → List ℕ → ModuleVerdict → Type 0
SaysOfModule devices texts verdicts name (IsAccepted definitions) =
    AllByRecursion (IsShownDefinition devices texts verdicts name) definitions
SaysOfModule devices texts verdicts name (IsRefused code at) =
    IsCodeOfDefinition code → IsShownRefusal devices texts verdicts name code at

-- What is shown of verdicts are those of the present modules, each by its name, and what they say is so.
pub record AreShownVerdicts (devices : List DeviceDecl) (texts : Texts) (shown : List (List ℕ × ModuleVerdict)) :
    Type 0 where
  pub verdicts : List ℕ → ModuleVerdict
  pub are : AreVerdicts devices texts verdicts
  pub of_modules : shown ≡ map (λ one. (one.0, verdicts one.0)) texts
  pub say : AllByRecursion (λ one. SaysOfModule devices texts verdicts one.0 one.1) shown

-- What is shown of the signatures of the module are those of its definitions, each of which has its types.
pub record AreShownSignatures (devices : List DeviceDecl) (texts : Texts) (name : List ℕ)
    (definitions : List CheckedDefinition) : Type 0 where
  pub verdicts : List ℕ → ModuleVerdict
  pub are : AreVerdicts devices texts verdicts
  pub accepted : verdicts name ≡ IsAccepted definitions
  pub say : AllByRecursion (IsShownDefinition devices texts verdicts name) definitions

-- ---- runs that are not shown
-- The definition of these names is not to be started, for the reason that the code tells.
pub record IsNotStarted (devices : List DeviceDecl) (texts : Texts) (module_name name : List ℕ) (code : Code) :
    Type 0 where
  pub verdicts : List ℕ → ModuleVerdict
  pub are : AreVerdicts devices texts verdicts
  pub reason : started_in texts verdicts module_name name ≡ Err code

-- A guarded run is refused with E37 where the rules do not permit the entry, and else for why there is none.
abbrev pub IsGuardRefusal : List DeviceDecl → JobState → List ℕ → List ℕ → Code → Type 0
IsGuardRefusal devices state module_name name E37 = IsNotPermitted devices state module_name name
IsGuardRefusal devices state module_name name code = IsNotStarted devices state.texts module_name name code

-- ---- audits
-- What is shown of an audit of the definition of these names: a line for each device of its authority, in order, with
-- what the rules decide for the module and that device.
pub record IsShownAudit (devices : List DeviceDecl) (state : JobState) (module_name name : List ℕ)
    (decisions : List (ℕ × Decision)) : Type 0 where
  pub verdicts : List ℕ → ModuleVerdict
  pub are : AreVerdicts devices state.texts verdicts
  pub entry : CheckedEntry
  pub of_definition : HasEntry devices state.texts verdicts (module_name, name) entry
  pub of_authority : map (λ one. one.0) decisions ≡ entry.authority
  pub decided : AllByRecursion (IsDecided (device_names devices) state.rules module_name) decisions

-- ---- certificates
-- One thing is found of the certificate that is shown: that it proves the definition's signature.
pub record IsShownCertificate (devices : List DeviceDecl) (texts : Texts) (module_name name : List ℕ)
    (lines : List (List ℕ)) : Type 0 where
  pub found : Found
  pub is_found : IsFound (lines_text lines) found
  pub says : SaysSignature devices texts module_name name (Verified found)

-- ---- replies
-- what the reply to each question says is so
abbrev pub SaysVerdicts : List DeviceDecl → JobState → Reply → Type 0
SaysVerdicts devices state (Verdicts shown) = AreShownVerdicts devices state.texts shown
SaysVerdicts devices state _ = ⊥

abbrev pub SaysSignatures : List DeviceDecl → JobState → List ℕ → Reply → Type 0
SaysSignatures devices state name (Signatures owner definitions) =
    (owner ≡ name) × AreShownSignatures devices state.texts name definitions
SaysSignatures devices state name (SignaturesRefused owner code) = owner ≡ name
SaysSignatures devices state name _ = ⊥

abbrev pub SaysDerivation : List DeviceDecl → JobState → List ℕ → List ℕ → Reply → Type 0
SaysDerivation devices state module_name name (Derived owner definition lines) =
    NamesDefinition owner definition module_name name
    × IsShownCertificate devices state.texts module_name name lines
SaysDerivation devices state module_name name (DerivationRefused owner definition code) =
    NamesDefinition owner definition module_name name
SaysDerivation devices state module_name name _ = ⊥

abbrev pub SaysRun : List DeviceDecl → JobState → List ℕ → List ℕ → ℕ → Reply → Type 0
SaysRun devices state module_name name fuel (Ran owner definition authority events ending steps) =
    NamesDefinition owner definition module_name name
    × IsShownRun devices state.texts module_name name fuel authority events ending steps
SaysRun devices state module_name name fuel (RunRefused owner definition code) =
    NamesDefinition owner definition module_name name × IsNotStarted devices state.texts module_name name code
SaysRun devices state module_name name fuel _ = ⊥

abbrev pub SaysTasks : List DeviceDecl → JobState → ℕ → List ℕ → List (List ℕ × List ℕ) → Reply → Type 0
SaysTasks devices state fuel schedule tasks (TasksRan authorities report) =
    AreShownTasks devices state.texts fuel schedule tasks authorities report
SaysTasks devices state fuel schedule tasks (TasksRefused code module_name name) =
    IsNotStarted devices state.texts module_name name code
SaysTasks devices state fuel schedule tasks _ = ⊥

abbrev pub SaysAudit : List DeviceDecl → JobState → List ℕ → List ℕ → Reply → Type 0
SaysAudit devices state module_name name (Audited owner definition decisions) =
    NamesDefinition owner definition module_name name × IsShownAudit devices state module_name name decisions
SaysAudit devices state module_name name (AuditRefused owner definition code) =
    NamesDefinition owner definition module_name name × IsNotStarted devices state.texts module_name name code
SaysAudit devices state module_name name _ = ⊥

abbrev pub SaysGuarded : List DeviceDecl → JobState → List ℕ → List ℕ → ℕ → Reply → Type 0
SaysGuarded devices state module_name name fuel (Guarded owner definition authority events ending steps) =
    NamesDefinition owner definition module_name name
    × IsShownGuardedRun devices state module_name name fuel authority events ending steps
SaysGuarded devices state module_name name fuel (GuardRefused owner definition code) =
    NamesDefinition owner definition module_name name × IsGuardRefusal devices state module_name name code
SaysGuarded devices state module_name name fuel _ = ⊥

abbrev pub SaysExplanation : List DeviceDecl → JobState → List ℕ → List ℕ → Reply → Type 0
SaysExplanation devices state module_name name (Explained owner definition explanations) =
    NamesDefinition owner definition module_name name
    × ExplainsSignature devices state.texts module_name name explanations
SaysExplanation devices state module_name name (ExplainRefused owner definition code) =
    NamesDefinition owner definition module_name name
SaysExplanation devices state module_name name _ = ⊥

abbrev pub SaysReplay : List DeviceDecl → JobState → List ℕ → List ℕ → ℕ → List ℕ → Reply → Type 0
SaysReplay devices state module_name name fuel text (Replayed owner definition Agrees) =
    NamesDefinition owner definition module_name name
    × IsSafeTraceOf devices state.texts module_name name fuel text
SaysReplay devices state module_name name fuel text (Replayed owner definition (Differs line)) =
    NamesDefinition owner definition module_name name
    × DiffersFirst devices state.texts module_name name fuel text line
SaysReplay devices state module_name name fuel text (ReplayRefused owner definition code) =
    NamesDefinition owner definition module_name name × IsNotStarted devices state.texts module_name name code
SaysReplay devices state module_name name fuel text _ = ⊥

-- what is found of the text is told, which is that it is a proof where a type is told
abbrev pub SaysFound : List ℕ → Reply → Type 0
SaysFound text (Verified found) = IsFound text found
SaysFound text _ = ⊥

-- what the reply to a question says is so
abbrev pub Says : List DeviceDecl → JobState → Question → Reply → Type 0
Says devices state CheckModules reply = SaysVerdicts devices state reply
Says devices state (ShowSignature name) reply = SaysSignatures devices state name reply
Says devices state (ShowDerivation module_name name) reply = SaysDerivation devices state module_name name reply
Says devices state (RunDefinition module_name name fuel) reply = SaysRun devices state module_name name fuel reply
Says devices state (RunTasks fuel schedule tasks) reply = SaysTasks devices state fuel schedule tasks reply
Says devices state (AuditDefinition module_name name) reply = SaysAudit devices state module_name name reply
Says devices state (GuardDefinition module_name name fuel) reply =
    SaysGuarded devices state module_name name fuel reply
Says devices state (ExplainDefinition module_name name) reply = SaysExplanation devices state module_name name reply
Says devices state (ReplayDefinition module_name name fuel text) reply =
    SaysReplay devices state module_name name fuel text reply

-- What the reply to a command says is so. That a module was put or dropped, and how many rules are in force, says no more
-- than the reply itself.
abbrev pub IsSoundReply : List DeviceDecl → JobState → Request → Reply → Type 0
IsSoundReply devices state (PutText name text) reply = Unit {0}
IsSoundReply devices state (DropModule name) reply = Unit {0}
IsSoundReply devices state (SetPolicy rules) reply = Unit {0}
IsSoundReply devices state (VerifyText text) reply = SaysFound text reply
IsSoundReply devices state (Ask question) reply = Says devices state question reply

-- The text is that of replies to the commands, one for each in order, in this state before the first, and what each of
-- them says is so in the state in which it is given.
abbrev pub IsSoundOutput : List DeviceDecl → JobState → List Request → List ℕ → Type 0
IsSoundOutput devices state [] text = text ≡ []
IsSoundOutput devices state (first ∷ others) text =
    (reply : Reply) × (rest : List ℕ) × Replies devices state first reply × IsSoundReply devices state first reply
    × IsSoundOutput devices (after state first) others rest
    × (text ≡ reply_text (device_names devices) reply ++ rest)

-- The output of the commands of each job is sound, whatever they are.
abbrev pub EveryOutputIsSound : Type 0
EveryOutputIsSound =
    (bytes : List ℕ) (job : Job) → IsJob bytes job → (text : List ℕ) (refused : Bool)
    → IsOutput job.devices no_module (requests_of job) text refused
    → IsSoundOutput job.devices no_module (requests_of job) text
