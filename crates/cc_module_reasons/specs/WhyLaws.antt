-- The laws of what is answered where it is asked why a module is refused.
use Rattle.std.specs.Prelude.{◌≡◌, ℕ, List, Some, None}
use Rattle.cc_base.specs.declared.device.DeviceDecl.{DeviceDecl}
use Rattle.cc_mnf.specs.Scopes.{Name}
use Rattle.cc_module_reasons.specs.WhyAnswers.{Why, NoSuchModule, NotRefused, RefusedSince, IsWhy}
use Rattle.cc_verdicts.specs.ModuleLaws.{NamesOfDevicesDiffer}
use Rattle.cc_verdicts.specs.ModuleVerdicts.{CheckedDefinition, ModuleVerdict, IsAccepted, IsRefused}
use Rattle.cc_verdicts.specs.PresentTexts.{Texts, ArePresent, text_of, AreVerdicts}

-- what an answer says of a module, where modules have these verdicts
abbrev pub SaysVerdict : Texts → (List ℕ → ModuleVerdict) → Name → Why → Type 0
SaysVerdict texts verdicts name NoSuchModule = text_of texts name ≡ None
SaysVerdict texts verdicts name NotRefused =
    (text : List ℕ) × (definitions : List CheckedDefinition) × (text_of texts name ≡ Some text)
    × (verdicts name ≡ IsAccepted definitions)
SaysVerdict texts verdicts name (RefusedSince code at lines) =
    (text : List ℕ) × (text_of texts name ≡ Some text) × (verdicts name ≡ IsRefused code at)

-- The answer says what a check says: that the module is not present, that it is accepted, or its code and place.
abbrev pub WhySaysTheVerdict : Type 0
WhySaysTheVerdict =
    (devices : List DeviceDecl) (texts : Texts) (verdicts : List ℕ → ModuleVerdict) (name : Name) (answer : Why)
    → ArePresent texts → AreVerdicts devices texts verdicts → IsWhy devices texts name answer
    → SaysVerdict texts verdicts name answer

-- There is an answer for each name,
abbrev pub WhyHasAnAnswer : Type 0
WhyHasAnAnswer =
    (devices : List DeviceDecl) (texts : Texts) (name : Name) → NamesOfDevicesDiffer devices → ArePresent texts
    → (answer : Why) × IsWhy devices texts name answer

-- and one alone.
abbrev pub WhyHasOneAnswer : Type 0
WhyHasOneAnswer =
    (devices : List DeviceDecl) (texts : Texts) (name : Name) (one other : Why)
    → ArePresent texts → IsWhy devices texts name one → IsWhy devices texts name other → one ≡ other
