-- What is to become of each present module. It serves the code alone.
use Rattle.std.specs.Prelude.{◌≡◌, ℕ, ◌<◌, Bool, true, false, List, [], length, Option, Some, None}
use Rattle.std.specs.Prelude.{option_map, slice_get, slice_index_or, if◌then◌else◌}
use Rattle.std.specs.List.{AllByRecursion}
use Rattle.std.specs.Option.{unwrap_or, is_some}
use Rattle.cc_base.specs.declared.device.DeviceDecl.{DeviceDecl}
use Rattle.cc_graph.specs.Graph.{reaches}
use Rattle.cc_verdicts.specs.ModuleVerdicts.{Finding, ModuleVerdict}
use Rattle.cc_verdicts.specs.PresentTexts.{Texts, graph_of, findings_for, AreVerdicts}
use Rattle.cc_verdicts.specs.Readings.{imports_of}
use Rattle.cc_module.specs.declared.judgement.ModuleVerdict.{ModuleVerdict as DeclaredVerdict}
use Rattle.cc_module.specs.Judgements.{module_verdict_of}
use Rattle.cc_judge.specs.declared.plans.Plan.{Plan}
use Rattle.cc_judge.specs.declared.plans.Plan.TheVariants.{Keep, Judge}
use Rattle.cc_judge.specs.Judgements.{Judgement, IsJudged, judgement_in, is_stale}
use Rattle.cc_judge.specs.Kept.{judged_on}
use Rattle.cc_judge.specs.Places.{entry_at, name_at, text_at}

-- the judgement that a module has by its plan
abbrev pub plan_judgement : List Judgement → Plan → Option Judgement
plan_judgement last (Keep at) = slice_get last at
plan_judgement last (Judge name verdict grounds) = Some (judged_on (name, verdict) grounds)

-- its verdict
abbrev pub plan_verdict : List (List ℕ × DeclaredVerdict) → Plan → Option ModuleVerdict
plan_verdict verdicts (Keep at) = option_map (λ entry. module_verdict_of entry.1) (slice_get verdicts at)
plan_verdict verdicts (Judge name verdict grounds) = Some (module_verdict_of verdict)

-- at the place stands the judgement of the module with this text and these findings
pub record IsJudgedAt (last : List Judgement) (name text : List ℕ) (findings : List Finding) (at : ℕ) : Type 0 where
  pub one : Judgement
  pub stands : slice_get last at ≡ Some one
  pub same_name : one.name ≡ name
  pub same_text : one.text ≡ text
  pub same_findings : one.findings ≡ findings

-- by the plan the module has a verdict that its text deserves with these findings
pub record IsPlanFor (devices : List DeviceDecl) (last : List Judgement) (name text : List ℕ) (findings : List Finding)
    (plan : Plan) : Type 0 where
  pub one : Judgement
  pub planned : plan_judgement last plan ≡ Some one
  pub judged : IsJudged devices one
  pub same_name : one.name ≡ name
  pub same_text : one.text ≡ text
  pub same_findings : one.findings ≡ findings

-- the plan for the place, if there is one yet
abbrev pub plan_at : List (Option Plan) → ℕ → Option Plan
plan_at plans place = slice_index_or plans place None

abbrev pub IsPlanned : List (Option Plan) → ℕ → Type 0
IsPlanned plans place = is_some (plan_at plans place) ≡ true

-- by the plan, if there is one yet, the present module has this judgement
abbrev pub IsRight : List Judgement → Judgement → Option Plan → Type 0
IsRight last one None = Unit {0}
IsRight last one (Some plan) = plan_judgement last plan ≡ Some one

-- the plans so far are right, where modules have these verdicts
pub record AreRight (texts : Texts) (last : List Judgement) (verdicts : List ℕ → ModuleVerdict)
    (plans : List (Option Plan)) : Type 0 where
  pub count : length plans ≡ length texts
  pub right : (place : ℕ) → place < length texts
      → IsRight last (judgement_in texts verdicts (entry_at texts place)) (plan_at plans place)

-- they are right for the verdicts of the present texts
abbrev pub ArePlans : List DeviceDecl → Texts → List Judgement → List (Option Plan) → Type 0
ArePlans devices texts last plans =
    (verdicts : List ℕ → ModuleVerdict) → AreVerdicts devices texts verdicts → AreRight texts last verdicts plans

-- what is asked for the module at the place is planned
abbrev pub AsksPlanned : Texts → List (Option Plan) → ℕ → Type 0
AsksPlanned texts plans place =
    AllByRecursion
    (λ one. (other : ℕ) → other < length texts → name_at texts other ≡ one.source
    → reaches (graph_of texts) one.source (name_at texts place) ≡ false → IsPlanned plans other)
    (unwrap_or (imports_of (text_at texts place)) [])

-- what is planned stays planned
abbrev pub StayPlanned : List (Option Plan) → List (Option Plan) → Type 0
StayPlanned old new = (place : ℕ) → IsPlanned old place → IsPlanned new place

-- whether the module at the place is stale, where modules have these verdicts
abbrev pub is_stale_at : List Judgement → Texts → (List ℕ → ModuleVerdict) → ℕ → Bool
is_stale_at last texts verdicts place =
    is_stale last (name_at texts place) (text_at texts place)
    (findings_for texts verdicts (name_at texts place) (text_at texts place))

-- how many steps a plan for the place takes, if there is none yet
abbrev pub steps_for : List Judgement → Texts → (List ℕ → ModuleVerdict) → List (Option Plan) → ℕ → ℕ
steps_for last texts verdicts plans place =
    if is_some (plan_at plans place) then 0 else (if is_stale_at last texts verdicts place then 1 else 0)

-- a plan for the place is made, and the others stay
pub record PlansPlace (devices : List DeviceDecl) (texts : Texts) (last : List Judgement) (place : ℕ)
    (old new : List (Option Plan)) : Type 0 where
  pub plans : ArePlans devices texts last new
  pub planned : IsPlanned new place
  pub stay : StayPlanned old new

-- there is a plan for each place, and it is right
pub record AreAllPlanned (devices : List DeviceDecl) (texts : Texts) (last : List Judgement)
    (plans : List (Option Plan)) : Type 0 where
  pub right : ArePlans devices texts last plans
  pub all : (place : ℕ) → place < length texts → IsPlanned plans place

-- the judgement by the plan, if there is one
abbrev pub planned : List Judgement → Option Plan → Option Judgement
planned last None = None
planned last (Some plan) = plan_judgement last plan

-- by the plan the module at the place has its judgement, where modules have these verdicts
abbrev pub IsRightPlan : List DeviceDecl → Texts → List Judgement → ℕ → Plan → Type 0
IsRightPlan devices texts last place plan =
    (verdicts : List ℕ → ModuleVerdict) → AreVerdicts devices texts verdicts
    → plan_judgement last plan ≡ Some (judgement_in texts verdicts (entry_at texts place))
