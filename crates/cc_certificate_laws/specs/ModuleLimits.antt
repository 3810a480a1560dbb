-- The signatures of accepted modules are low, and so what is found for imports.
use Rattle.std.specs.Prelude.{ℕ, ◌≤◌, List}
use Rattle.std.specs.List.{AllByRecursion}
use Rattle.cc_base.specs.declared.device.DeviceDecl.{DeviceDecl}
use Rattle.cc_verdicts.specs.ModuleVerdicts.{Finding, FoundDefinition, CheckedDefinition, ModuleVerdict, IsAccepted}
use Rattle.cc_verdicts.specs.ModuleVerdicts.{HasModuleVerdict}
use Rattle.cc_verdicts.specs.PresentTexts.{Texts, findings_for, AreVerdicts}
use Rattle.cc_certificate_text.specs.Heights.{shape_height}

-- the type that others see is no higher than the greatest size of a type that is inferred
abbrev pub HasLowSignature : CheckedDefinition → Type 0
HasLowSignature one = shape_height one.accepted.signature.shape ≤ 4096

-- so is the signature that is found, if one is
abbrev pub IsLowFinding : Finding → Type 0
IsLowFinding (FoundDefinition signature) = shape_height signature.shape ≤ 4096
IsLowFinding _ = Unit {0}

-- the signatures of an accepted module are low, whatever it imports
abbrev pub SignaturesOfModulesAreLow : Type 0
SignaturesOfModulesAreLow =
    (devices : List DeviceDecl) (text : List ℕ) (findings : List Finding) (definitions : List CheckedDefinition)
    → HasModuleVerdict devices text findings (IsAccepted definitions) → AllByRecursion HasLowSignature definitions

-- and so is what is found for the imports of a text among present ones
abbrev pub FindingsAreLow : Type 0
FindingsAreLow =
    (devices : List DeviceDecl) (texts : Texts) (verdicts : List ℕ → ModuleVerdict)
    → AreVerdicts devices texts verdicts
    → (name text : List ℕ) → AllByRecursion IsLowFinding (findings_for texts verdicts name text)
