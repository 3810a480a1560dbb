-- The reasons of imports belong to the verdicts of modules.
use Rattle.std.specs.Prelude.{◌≡◌, ℕ, List, Some}
use Rattle.cc_base.specs.declared.device.DeviceDecl.{DeviceDecl}
use Rattle.cc_base.specs.declared.place.Place.{Place}
use Rattle.cc_grammar.specs.Syntax.{ModuleSyntax}
use Rattle.cc_module_reasons.specs.ImportReasons.{ImportReason, import_code, HasImportReason}
use Rattle.cc_verdicts.specs.ModuleVerdicts.{ModuleVerdict, IsRefused, Refusal, HasModuleVerdict, first_missing}
use Rattle.cc_verdicts.specs.PresentTexts.{Texts, findings_for}
use Rattle.cc_verdicts.specs.Readings.{HasReading, IsTree}

-- a module with such a reason is refused with its code at its place
abbrev pub ImportReasonsAreOfRefusals : Type 0
ImportReasonsAreOfRefusals =
    (devices : List DeviceDecl) (texts : Texts) (verdicts : List ℕ → ModuleVerdict) (name text : List ℕ)
    (reason : ImportReason) (at : Place)
    → HasImportReason texts verdicts name text reason at
    → HasModuleVerdict devices text (findings_for texts verdicts name text) (IsRefused (import_code reason) at)

-- A module of which an import finds no definition has such a reason, with that code at that place.
abbrev pub MissingImportsHaveAReason : Type 0
MissingImportsHaveAReason =
    (texts : Texts) (verdicts : List ℕ → ModuleVerdict) (name text : List ℕ) (tree : ModuleSyntax) (missing : Refusal)
    → HasReading text (IsTree tree) → first_missing tree.imports (findings_for texts verdicts name text) ≡ Some missing
    → (reason : ImportReason) × (missing.code ≡ import_code reason)
    × HasImportReason texts verdicts name text reason missing.at

-- and it has one alone
abbrev pub ImportReasonsAreUnique : Type 0
ImportReasonsAreUnique =
    (texts : Texts) (verdicts : List ℕ → ModuleVerdict) (name text : List ℕ) (one other : ImportReason) (at place : Place)
    → HasImportReason texts verdicts name text one at → HasImportReason texts verdicts name text other place
    → (one ≡ other) × (at ≡ place)
