-- How many modules the checks of commands find stale, by example.
use Rattle.std.specs.Prelude.{◌≡◌, ℕ, List, [], ◌∷◌, codes}
use Rattle.cc_base.specs.declared.device.DeviceDecl.{DeviceDecl}
use Rattle.cc_judge.specs.Judgements.{Judgement}
use Rattle.cc_verdicts.specs.PresentTexts.{Texts}
use Rattle.cc_policy.specs.declared.policy.Rule.{Rule}
use Rattle.cc_replies.specs.Requests.{CheckModules, ShowSignature, AuditDefinition, GuardDefinition, PutText, DropModule}
use Rattle.cc_replies.specs.Requests.{SetPolicy, VerifyText, Ask, JobState, no_module}
use Rattle.cc_replies.specs.StaleModules.{FindsStale, AreStale}

-- putting and removing a module finds none stale, and leaves the judgements as they were
abbrev pub PutsFindNoneStale : Type 0
PutsFindNoneStale =
    (devices : List DeviceDecl) (state : JobState) (last : List Judgement) (name text : List ℕ)
    → FindsStale devices state last (PutText name text) 0 last

abbrev pub DropsFindNoneStale : Type 0
DropsFindNoneStale =
    (devices : List DeviceDecl) (state : JobState) (last : List Judgement) (name : List ℕ)
    → FindsStale devices state last (DropModule name) 0 last

-- and so do policies and certificates
abbrev pub PoliciesFindNoneStale : Type 0
PoliciesFindNoneStale =
    (devices : List DeviceDecl) (state : JobState) (last : List Judgement) (rules : List Rule)
    → FindsStale devices state last (SetPolicy rules) 0 last

abbrev pub CertificatesFindNoneStale : Type 0
CertificatesFindNoneStale =
    (devices : List DeviceDecl) (state : JobState) (last : List Judgement) (text : List ℕ)
    → FindsStale devices state last (VerifyText text) 0 last

abbrev pub m : List ℕ
m = codes "m"

-- A module is put and checked twice, put again with the same text and checked, and put with another text and checked:
-- the first check and the last one find it stale.
abbrev pub TwoOfFourChecks : Type 0
TwoOfFourChecks =
    AreStale [] no_module []
    (PutText m [] ∷ Ask CheckModules ∷ Ask CheckModules ∷ PutText m [] ∷ Ask CheckModules ∷ PutText m (codes " ") ∷ Ask CheckModules
    ∷ []) 2

-- A module that was removed and put again with its text is not stale where no check stood between. A request for
-- signatures checks too.
abbrev pub PutAgainBeforeACheck : Type 0
PutAgainBeforeACheck =
    AreStale [] no_module [] (PutText m [] ∷ Ask (ShowSignature m) ∷ DropModule m ∷ PutText m [] ∷ Ask CheckModules ∷ []) 1

-- An audit checks, and so does a guard: the one behind the other finds nothing stale.
abbrev pub AuditsAndGuardsCheck : Type 0
AuditsAndGuardsCheck =
    AreStale [] no_module []
    (PutText m [] ∷ SetPolicy [] ∷ Ask (AuditDefinition m m) ∷ PutText m (codes " ") ∷ Ask (GuardDefinition m m 0)
    ∷ Ask (AuditDefinition m m) ∷ []) 2

-- one where a check stood between
abbrev pub PutAgainBehindACheck : Type 0
PutAgainBehindACheck =
    AreStale [] no_module [] (PutText m [] ∷ Ask CheckModules ∷ DropModule m ∷ Ask CheckModules ∷ PutText m [] ∷ Ask CheckModules ∷ []) 2
