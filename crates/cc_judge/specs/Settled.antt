-- What was found by the last verdicts, and what is still found so.
use Rattle.std.specs.Prelude.{◌≡◌, ℕ, ◌<◌, List, [], length, Option, Some, option_map, slice_index_or}
use Rattle.std.specs.List.{AllByRecursion, AllZip}
use Rattle.std.specs.Map.{lookup}
use Rattle.std.specs.Option.{unwrap_or}
use Rattle.std.specs.Str.{bytes_eq}
use Rattle.cc_base.specs.declared.device.DeviceDecl.{DeviceDecl}
use Rattle.cc_core.specs.Shapes.{CapturingType}
use Rattle.cc_grammar.specs.Syntax.{ImportSyntax}
use Rattle.cc_verdicts.specs.ModuleVerdicts.{Finding, FoundDefinition, ModuleVerdict}
use Rattle.cc_verdicts.specs.PresentTexts.{Texts, AreVerdicts, finding_in}
use Rattle.cc_verdicts.specs.Readings.{imports_of}
use Rattle.cc_judge.specs.Judgements.{Judgement, verdicts_of}
use Rattle.cc_judge.specs.Places.{name_at}

-- what is found under the name in the last verdict of the module, if it was judged
abbrev pub found_last : List Judgement → List ℕ → List ℕ → Option Finding
found_last last source name =
    option_map (λ verdict. finding_in verdict name) (lookup (bytes_eq source) (verdicts_of last))

-- if a definition is found for the import, it is found so in the last verdict of the module that is imported from
abbrev pub IsFoundLast : List Judgement → ImportSyntax → Finding → Type 0
IsFoundLast last one finding =
    (signature : CapturingType) → finding ≡ FoundDefinition signature
    → found_last last one.source one.name ≡ Some (FoundDefinition signature)

-- the same of all imports
abbrev pub AreFoundLast : List Judgement → List ImportSyntax → List Finding → Type 0
AreFoundLast last imports findings = AllZip (IsFoundLast last) imports findings

-- what was found for each judgement is found in the verdicts of the others
abbrev pub AreSettled : List Judgement → Type 0
AreSettled last =
    AllByRecursion (λ one. AreFoundLast last (unwrap_or (imports_of one.text) []) one.findings) last

-- if a definition is found under the name in the verdict of the module, it is found so in its last verdict
abbrev pub IsStillFound : List DeviceDecl → Texts → List Judgement → List ℕ → List ℕ → Type 0
IsStillFound devices texts last source name =
    (verdicts : List ℕ → ModuleVerdict) → AreVerdicts devices texts verdicts
    → (signature : CapturingType) → finding_in (verdicts source) name ≡ FoundDefinition signature
    → found_last last source name ≡ Some (FoundDefinition signature)

-- it is so of the names that are known of each present module
pub record AreStillFound (devices : List DeviceDecl) (texts : Texts) (last : List Judgement)
    (known : List (List (List ℕ))) : Type 0 where
  pub count : length known ≡ length texts
  pub each : (place : ℕ) → place < length texts
      → AllByRecursion (IsStillFound devices texts last (name_at texts place)) (slice_index_or known place [])

-- two findings are one where both are definitions
abbrev pub AreOneIfFound : Finding → Finding → Type 0
AreOneIfFound left right =
    (signature other : CapturingType) → left ≡ FoundDefinition signature → right ≡ FoundDefinition other
    → signature ≡ other
