-- The laws of replies and of outputs.
use Rattle.std.specs.Prelude.{◌≡◌, ◌↔◌, ℕ, Bool, ◌||◌, List, ◌++◌, Some, IsTrue, slice_get}
use Rattle.std.specs.List.{AllByRecursion}
use Rattle.cc_base.specs.declared.code.Code.TheVariants.{E37}
use Rattle.cc_base.specs.declared.device.DeviceDecl.{DeviceDecl}
use Rattle.cc_entry_laws.specs.PresentEntries.{CheckedEntry}
use Rattle.cc_verdicts.specs.ModuleLaws.{NamesOfDevicesDiffer}
use Rattle.cc_verdicts.specs.PresentTexts.{ArePresent}
use Rattle.cc_mnf.specs.ElaboratedModules.{device_names}
use Rattle.cc_policy.specs.declared.policy.Rule.{Rule}
use Rattle.cc_policy.specs.Policies.{Decides}
use Rattle.cc_replies.specs.PolicyReplies.{Allows, IsPermitted, decision_for, are_allowed, permitted_told, guard_told}
use Rattle.cc_replies.specs.ReplyTexts.{Reply, GuardRefused}
use Rattle.cc_replies.specs.RunReplies.{declared_run}
use Rattle.cc_replies.specs.Requests.{Request, JobState}
use Rattle.cc_replies.specs.Replies.{Replies, after}
use Rattle.cc_judge.specs.Judgements.{Judgement}
use Rattle.cc_replies.specs.Outputs.{IsOutput, after_all}
use Rattle.cc_replies.specs.StaleModules.{AreStale}

-- a command leaves texts in order of name, and one for each name
abbrev pub TextsStayPresent : Type 0
TextsStayPresent = (state : JobState) (request : Request) → ArePresent state.texts → ArePresent (after state request).texts

-- a command has a reply
abbrev pub RepliesExist : Type 0
RepliesExist =
    (devices : List DeviceDecl) (state : JobState) (request : Request) → NamesOfDevicesDiffer devices → ArePresent state.texts
    → (reply : Reply) × Replies devices state request reply

-- and no other
abbrev pub RepliesAreUnique : Type 0
RepliesAreUnique =
    (devices : List DeviceDecl) (state : JobState) (request : Request) (first second : Reply) → ArePresent state.texts
    → Replies devices state request first → Replies devices state request second → first ≡ second

-- what is told of a device is what the rules decide for the module and the device's name
abbrev pub ToldDecisionsAreDecided : Type 0
ToldDecisionsAreDecided =
    (names : List (List ℕ)) (rules : List Rule) (module_name : List ℕ) (device : ℕ) (name : List ℕ)
    → slice_get names device ≡ Some name → Decides rules module_name name (decision_for names rules module_name device)

-- the test says that devices are allowed exactly where they are
abbrev pub PermissionIsTested : Type 0
PermissionIsTested =
    (names : List (List ℕ)) (rules : List Rule) (module_name : List ℕ) (devices : List ℕ)
    → IsTrue (are_allowed names rules module_name devices) ↔ AllByRecursion (Allows names rules module_name) devices

-- an entry that is permitted is run
abbrev pub PermittedEntriesAreRun : Type 0
PermittedEntriesAreRun =
    (devices : List DeviceDecl) (rules : List Rule) (module_name name : List ℕ) (fuel : ℕ) (entry : CheckedEntry)
    → IsPermitted (device_names devices) rules entry
    → guard_told devices rules module_name name fuel entry
    ≡ permitted_told module_name name entry.authority (declared_run devices fuel entry)

-- and one that is not is refused
abbrev pub OtherEntriesAreNotRun : Type 0
OtherEntriesAreNotRun =
    (devices : List DeviceDecl) (rules : List Rule) (module_name name : List ℕ) (fuel : ℕ) (entry : CheckedEntry)
    → (IsPermitted (device_names devices) rules entry → ⊥)
    → guard_told devices rules module_name name fuel entry ≡ GuardRefused module_name name E37

-- commands have an output
abbrev pub OutputsExist : Type 0
OutputsExist =
    (devices : List DeviceDecl) (state : JobState) (requests : List Request) → NamesOfDevicesDiffer devices
    → ArePresent state.texts → (text : List ℕ) × (refused : Bool) × IsOutput devices state requests text refused

-- The output of commands and then of others is that of the first, and behind it that of the others, in the state that
-- the first leave.
abbrev pub OutputsAreJoined : Type 0
OutputsAreJoined =
    (devices : List DeviceDecl) (state : JobState) (front back : List Request) (first second : List ℕ)
    (first_refused second_refused : Bool) → IsOutput devices state front first first_refused
    → IsOutput devices (after_all state front) back second second_refused
    → IsOutput devices state (front ++ back) (first ++ second) (first_refused || second_refused)

-- commands find some number of modules stale
abbrev pub StaleModulesAreCounted : Type 0
StaleModulesAreCounted =
    (devices : List DeviceDecl) (state : JobState) (last : List Judgement) (requests : List Request)
    → NamesOfDevicesDiffer devices → ArePresent state.texts → (sum : ℕ) × AreStale devices state last requests sum
