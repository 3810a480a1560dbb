-- The verdict of a module, as the program answers it.
use Rattle.std.specs.Prelude.{◌≡◌, ℕ, List, map, Vec, Option, Result, Ok, Err}
use Rattle.std.specs.declared.alloc.Global.{Global}
use Rattle.cc_base.specs.declared.code.Diag.{Diag}
use Rattle.cc_base.specs.declared.device.DeviceDecl.{DeviceDecl}
use Rattle.cc_check.specs.declared.error.CheckError.{CheckError}
use Rattle.cc_check.specs.declared.error.CheckError.TheVariants as errors
use Rattle.cc_check.specs.Definitions.{accepted_of}
use Rattle.cc_core.specs.Contexts.{Context}
use Rattle.cc_verdicts.specs.ModuleLaws.{AreSound}
use Rattle.cc_verdicts.specs.ModuleVerdicts.{Finding, Refusal, CheckedDefinition, ModuleVerdict, IsAccepted}
use Rattle.cc_verdicts.specs.ModuleVerdicts.{IsRefused, AreJudged, to_be_checked, checked_as}
use Rattle.cc_verdicts.specs.PresentTexts.{definition_named}
use Rattle.cc_mnf.specs.ElaboratedModules.{CoreDefinition}
use Rattle.cc_module.specs.declared.judgement.CheckedDef.{CheckedDef}
use Rattle.cc_module.specs.declared.judgement.Judgement.{Judgement}
use Rattle.cc_module.specs.declared.judgement.Judgement.TheVariants as judgements
use Rattle.cc_module.specs.declared.judgement.ModuleVerdict.{ModuleVerdict as DeclaredVerdict}
use Rattle.cc_checking.specs.Verdicts as definitions

-- the refusal
abbrev pub refusal_of : Diag → Refusal
refusal_of diag = record { code = diag.code; at = diag.place }

-- the definition
abbrev pub checked_definition_of : CheckedDef → CheckedDefinition
checked_definition_of it = record { name = it.name; recursive = it.recursive; accepted = accepted_of it.checked }

-- the judgement that a verdict holds
abbrev pub judgement_of : Judgement → ModuleVerdict
judgement_of (judgements.Accepted definitions) = IsAccepted (map checked_definition_of definitions.defs.items)
judgement_of (judgements.Refused diag) = IsRefused diag.code diag.place

-- the verdict
abbrev pub module_verdict_of : DeclaredVerdict → ModuleVerdict
module_verdict_of it = judgement_of it.judgement

-- the module is accepted, and this is its first definition of the name, if it has one
abbrev pub FindsDefinition : ModuleVerdict → List ℕ → Option CheckedDefinition → Type 0
FindsDefinition (IsAccepted definitions) name found = found ≡ definition_named name definitions
FindsDefinition (IsRefused code at) name found = ⊥

-- The definition has the verdict that is answered. Nothing is said where memory is wanting.
abbrev pub JudgesOne : ℕ → Context → CoreDefinition → Result CheckedDef CheckError → Type 0
JudgesOne devices globals definition (Ok one) =
    definitions.HasVerdict devices globals (to_be_checked definition) (definitions.IsAccepted (accepted_of one.checked))
    × (checked_definition_of one ≡ checked_as definition (accepted_of one.checked))
JudgesOne devices globals definition (Err (errors.Refused diag)) =
    definitions.HasVerdict devices globals (to_be_checked definition) (definitions.IsRefused diag.code diag.place)
JudgesOne devices globals definition (Err errors.NoMemory) = Unit {0}

-- the same of definitions in order
abbrev pub JudgesAll : ℕ → Context → List CoreDefinition → Result (Vec CheckedDef Global) CheckError → Type 0
JudgesAll devices globals definitions (Ok checked) =
    AreJudged devices globals definitions (IsAccepted (map checked_definition_of checked.items))
JudgesAll devices globals definitions (Err (errors.Refused diag)) =
    AreJudged devices globals definitions (IsRefused diag.code diag.place)
JudgesAll devices globals definitions (Err errors.NoMemory) = Unit {0}

-- where the module is accepted, its definitions are sound
abbrev pub IsSoundIfAccepted : List DeviceDecl → List Finding → ModuleVerdict → Type 0
IsSoundIfAccepted devices findings (IsAccepted definitions) = AreSound devices findings definitions
IsSoundIfAccepted devices findings (IsRefused code at) = Unit {0}
