-- The laws of verdicts: of one text, and of the present ones.
use Rattle.std.specs.Prelude.{◌≡◌, ℕ, List, [], length, map, reverse, Some}
use Rattle.std.specs.List.{AllByRecursion, IsDistinct}
use Rattle.std.specs.Option.{unwrap_or}
use Rattle.std.specs.Prelude.{IsTrue}
use Rattle.std.specs.Str.{bytes_eq}
use Rattle.cc_base.specs.declared.device.DeviceDecl.{DeviceDecl}
use Rattle.cc_core.specs.Occurrences.{HasNoHoleInType}
use Rattle.cc_core.specs.Programs.{AreTyped, NamesDevicesOnly, is_definable}
use Rattle.cc_core.specs.Shapes.{CapturingType}
use Rattle.cc_core.specs.WellFormed.{IsWellFormedType}
use Rattle.cc_device.specs.Declarations.{declared_bases}
use Rattle.cc_mnf.specs.ElaboratedModules.{device_names}
use Rattle.cc_verdicts.specs.Readings.{imports_of}
use Rattle.cc_verdicts.specs.ModuleVerdicts.{Finding, FoundDefinition, CheckedDefinition, ModuleVerdict, IsAccepted}
use Rattle.cc_verdicts.specs.ModuleVerdicts.{HasModuleVerdict, declared_context, with_findings, in_program}
use Rattle.cc_verdicts.specs.PresentTexts.{Texts, ArePresent, text_of, findings_for, AreVerdicts}

-- the names of the devices differ
abbrev pub NamesOfDevicesDiffer : List DeviceDecl → Type 0
NamesOfDevicesDiffer devices = IsDistinct bytes_eq (device_names devices)

-- the type names the devices alone, and has no hole
abbrev pub IsOverDevices : List DeviceDecl → CapturingType → Type 0
IsOverDevices devices type = IsWellFormedType (declared_context devices) type × HasNoHoleInType type

-- the signature that is found, if one is, is over the devices
abbrev pub FitsDevices : List DeviceDecl → Finding → Type 0
FitsDevices devices (FoundDefinition signature) = IsOverDevices devices signature
FitsDevices devices _ = Unit {0}

-- The findings fit the text: there is one for each import, and none where the text is no module, and each signature
-- that is found is over the devices.
pub record AreFit (devices : List DeviceDecl) (text : List ℕ) (findings : List Finding) : Type 0 where
  pub one_each : length findings ≡ length (unwrap_or (imports_of text) [])
  pub over_devices : AllByRecursion (FitsDevices devices) findings

-- a text has a verdict
abbrev pub ModuleVerdictsExist : Type 0
ModuleVerdictsExist =
    (devices : List DeviceDecl) (text : List ℕ) (findings : List Finding) → NamesOfDevicesDiffer devices
    → AreFit devices text findings → (verdict : ModuleVerdict) × HasModuleVerdict devices text findings verdict

-- and no other
abbrev pub ModuleVerdictsAreUnique : Type 0
ModuleVerdictsAreUnique =
    (devices : List DeviceDecl) (text : List ℕ) (findings : List Finding) (first second : ModuleVerdict)
    → HasModuleVerdict devices text findings first → HasModuleVerdict devices text findings second → first ≡ second

-- What holds of the definitions of an accepted module: their names differ; each is a value, and a recursive one a
-- function; each signature is over the devices; and each definition has the type of its signature, in the context of
-- the devices, of what is found for the imports, and of the signatures before it.
pub record AreSound (devices : List DeviceDecl) (findings : List Finding) (definitions : List CheckedDefinition) :
    Type 0 where
  pub names : IsDistinct bytes_eq (map (λ one. one.name) definitions)
  pub values : AllByRecursion (λ one. IsTrue (is_definable (in_program one))) definitions
  pub over_devices : AllByRecursion (λ one. IsOverDevices devices one.accepted.signature) definitions
  pub name_devices : AllByRecursion
      (λ one. NamesDevicesOnly (declared_bases devices) one.accepted.signature) definitions
  pub typed : AreTyped (with_findings (declared_context devices) findings) (reverse (map in_program definitions))

abbrev pub AcceptedModulesAreSound : Type 0
AcceptedModulesAreSound =
    (devices : List DeviceDecl) (text : List ℕ) (findings : List Finding) (definitions : List CheckedDefinition)
    → NamesOfDevicesDiffer devices → AreFit devices text findings
    → HasModuleVerdict devices text findings (IsAccepted definitions) → AreSound devices findings definitions

-- the present modules have verdicts
abbrev pub VerdictsExist : Type 0
VerdictsExist =
    (devices : List DeviceDecl) (texts : Texts) → NamesOfDevicesDiffer devices → ArePresent texts
    → (verdicts : List ℕ → ModuleVerdict) × AreVerdicts devices texts verdicts

-- and each present module no other
abbrev pub VerdictsAreUnique : Type 0
VerdictsAreUnique =
    (devices : List DeviceDecl) (texts : Texts) (first second : List ℕ → ModuleVerdict) → ArePresent texts
    → AreVerdicts devices texts first → AreVerdicts devices texts second
    → (name text : List ℕ) → text_of texts name ≡ Some text → first name ≡ second name

-- what is found for the imports of a present module fits its text
abbrev pub FindingsFit : Type 0
FindingsFit =
    (devices : List DeviceDecl) (texts : Texts) (verdicts : List ℕ → ModuleVerdict) → NamesOfDevicesDiffer devices
    → ArePresent texts → AreVerdicts devices texts verdicts
    → (name text : List ℕ) → text_of texts name ≡ Some text
    → AreFit devices text (findings_for texts verdicts name text)
