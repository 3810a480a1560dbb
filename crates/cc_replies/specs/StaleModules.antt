-- How many modules the checks of the commands of a job find stale, one check after another.
use Rattle.std.specs.Prelude.{◌≡◌, ℕ, ◌+◌, List, [], ◌∷◌}
use Rattle.cc_base.specs.declared.device.DeviceDecl.{DeviceDecl}
use Rattle.cc_judge.specs.Judgements.{Judgement, judgements, stale_count}
use Rattle.cc_verdicts.specs.ModuleVerdicts.{ModuleVerdict}
use Rattle.cc_verdicts.specs.PresentTexts.{Texts, ArePresent, AreVerdicts}
use Rattle.cc_replies.specs.Requests.{Request, PutText, DropModule, SetPolicy, VerifyText, Ask, JobState}
use Rattle.cc_replies.specs.Replies.{after}

-- A check of the present texts, where these were the judgements of the check before: so many modules are stale, and the
-- next judgements are those of the present texts.
abbrev pub Checks : List DeviceDecl → Texts → List Judgement → ℕ → List Judgement → Type 0
Checks devices texts last count next =
    (verdicts : List ℕ → ModuleVerdict) × AreVerdicts devices texts verdicts
    × (count ≡ stale_count last texts verdicts) × (next ≡ judgements texts verdicts)

-- How many modules a command's check finds stale, and the judgements after it. Questions alone check.
abbrev pub FindsStale : List DeviceDecl → JobState → List Judgement → Request → ℕ → List Judgement → Type 0
FindsStale devices state last (PutText name text) count next = (count ≡ 0) × (next ≡ last)
FindsStale devices state last (DropModule name) count next = (count ≡ 0) × (next ≡ last)
FindsStale devices state last (SetPolicy rules) count next = (count ≡ 0) × (next ≡ last)
FindsStale devices state last (VerifyText text) count next = (count ≡ 0) × (next ≡ last)
FindsStale devices state last (Ask question) count next = Checks devices state.texts last count next

-- how many modules all commands together find stale, in this state before the first
abbrev pub AreStale : List DeviceDecl → JobState → List Judgement → List Request → ℕ → Type 0
AreStale devices state last [] sum = sum ≡ 0
AreStale devices state last (first ∷ others) sum =
    (count : ℕ) × (next : List Judgement) × (later : ℕ) × FindsStale devices state last first count next
    × AreStale devices (after state first) next others later × (sum ≡ count + later)

-- Commands find one number of modules stale.
abbrev pub StaleModulesAreCountedOnce : Type 0
StaleModulesAreCountedOnce =
    (devices : List DeviceDecl) (state : JobState) (last : List Judgement) (requests : List Request) (first second : ℕ)
    → ArePresent state.texts → AreStale devices state last requests first → AreStale devices state last requests second
    → first ≡ second
