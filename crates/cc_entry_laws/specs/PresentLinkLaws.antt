-- Why an element is in a signature.
use Rattle.std.specs.Prelude.{◌≡◌, ◌↔◌, ℕ, List, Some, Ok}
use Rattle.cc_base.specs.declared.device.DeviceDecl.{DeviceDecl}
use Rattle.cc_capture.specs.declared.var.Elem.{Elem}
use Rattle.cc_capture.specs.Sets.{Member}
use Rattle.cc_explain.specs.Chains.{IsChain}
use Rattle.cc_verdicts.specs.ModuleLaws.{NamesOfDevicesDiffer}
use Rattle.cc_verdicts.specs.ModuleVerdicts.{ModuleVerdict}
use Rattle.cc_verdicts.specs.PresentTexts.{Texts, ArePresent, AreVerdicts}
use Rattle.cc_verdicts.specs.StandingDefinitions.{Standing, standing_in}
use Rattle.cc_entry_laws.specs.PresentLinks.{Target, DefinitionOf, element_of, entry_in}

-- An element stands in the outermost set of the signature of a definition of an accepted present module exactly where
-- there is a chain from the definition to the device or to the universal capability that the element is.
abbrev pub SignatureElementsAreLinked : Type 0
SignatureElementsAreLinked =
    (devices : List DeviceDecl) (texts : Texts) (verdicts : List ℕ → ModuleVerdict) → NamesOfDevicesDiffer devices
    → ArePresent texts → AreVerdicts devices texts verdicts
    → (module_name name : List ℕ) (it : Standing) → standing_in texts verdicts module_name name ≡ Ok it
    → (e : Elem)
    → Member e it.definition.accepted.signature.set
    ↔ ((target : Target) × (chain : List Target) × (element_of target ≡ Some e)
    × IsChain (entry_in devices texts verdicts) (DefinitionOf module_name name) target chain)
