-- Modules that were judged, and which of the present ones have to be judged anew.
use Rattle.std.specs.Prelude.{◌≡◌, ℕ, Bool, not, ◌&&◌, List, map, count_by}
use Rattle.std.specs.List.{AllByRecursion, list_any}
use Rattle.std.specs.Str.{bytes_eq}
use Rattle.cc_base.specs.declared.device.DeviceDecl.{DeviceDecl}
use Rattle.cc_verdicts.specs.ModuleVerdicts.{Finding, ModuleVerdict, HasModuleVerdict}
use Rattle.cc_verdicts.specs.PresentTexts.{Texts, findings_for, AreVerdicts}
use Rattle.cc_verdicts.specs.ModuleLaws.{AreFit}
use Rattle.cc_judge.specs.SameFindings.{same_findings}

-- a module that was judged: its name, its text, what was found for its imports, and its verdict
pub record Judgement : Type 0 where
  pub name : List ℕ
  pub text : List ℕ
  pub findings : List Finding
  pub verdict : ModuleVerdict

-- the modules' names and their verdicts
abbrev pub verdicts_of : List Judgement → List (List ℕ × ModuleVerdict)
verdicts_of last = map (λ one. (one.name, one.verdict)) last

-- the verdict is the one that the text has with what was found, and this fits the text
pub record IsJudged (devices : List DeviceDecl) (one : Judgement) : Type 0 where
  pub deserved : HasModuleVerdict devices one.text one.findings one.verdict
  pub fit : AreFit devices one.text one.findings

-- each of them was judged so
abbrev pub AreJudged : List DeviceDecl → List Judgement → Type 0
AreJudged devices last = AllByRecursion (IsJudged devices) last

-- the judgement of a present module, where modules have these verdicts
abbrev pub judgement_in : Texts → (List ℕ → ModuleVerdict) → List ℕ × List ℕ → Judgement
judgement_in texts verdicts one = record {
  name = one.0;
  text = one.1;
  findings = findings_for texts verdicts one.0 one.1;
  verdict = verdicts one.0;
}

-- the judgements of all present modules, in order of name
abbrev pub judgements : Texts → (List ℕ → ModuleVerdict) → List Judgement
judgements texts verdicts = map (judgement_in texts verdicts) texts

-- these are the judgements of the present modules
abbrev pub AreCurrent : List DeviceDecl → Texts → List Judgement → Type 0
AreCurrent devices texts last =
    (verdicts : List ℕ → ModuleVerdict) × AreVerdicts devices texts verdicts × (last ≡ judgements texts verdicts)

-- whether that is the judgement of the module with this text, where this is found for its imports
abbrev pub is_judgement_of : List ℕ → List ℕ → List Finding → Judgement → Bool
is_judgement_of name text findings one =
    bytes_eq one.name name && (bytes_eq one.text text && same_findings one.findings findings)

-- A module is stale where it was not judged before, or with another text, or with other findings.
abbrev pub is_stale : List Judgement → List ℕ → List ℕ → List Finding → Bool
is_stale last name text findings = not (list_any (is_judgement_of name text findings) last)

-- how many of the present modules are stale, where modules have these verdicts
abbrev pub stale_count : List Judgement → Texts → (List ℕ → ModuleVerdict) → ℕ
stale_count last texts verdicts =
    count_by (λ one. is_stale last one.0 one.1 (findings_for texts verdicts one.0 one.1)) texts
