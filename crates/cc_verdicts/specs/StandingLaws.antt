-- The laws of definitions of present modules where they stand.
use Rattle.std.specs.Prelude.{◌≡◌, ℕ, List, length, Ok}
use Rattle.cc_base.specs.declared.device.DeviceDecl.{DeviceDecl}
use Rattle.cc_core.specs.Contexts.{Context}
use Rattle.cc_grammar.specs.Syntax.{ImportSyntax}
use Rattle.cc_checking.specs.Verdicts.{Definition, HasVerdict}
use Rattle.cc_checking.specs.Verdicts as definitions
use Rattle.cc_checking_laws.specs.CheckingLaws.{Fits}
use Rattle.cc_checking_laws.specs.AcceptedDefinitions.{definition_context}
use Rattle.cc_verdicts.specs.ModuleLaws.{NamesOfDevicesDiffer}
use Rattle.cc_verdicts.specs.ModuleVerdicts.{Finding, CheckedDefinition, ModuleVerdict}
use Rattle.cc_verdicts.specs.PresentTexts.{Texts, ArePresent, AreVerdicts}
use Rattle.cc_verdicts.specs.StandingDefinitions.{StandsInPresentModule, Standing, standing_context, standing_in}

-- the definition that is found stands in the module, and has the name
abbrev pub StandingDefinitionsStand : Type 0
StandingDefinitionsStand =
    (devices : List DeviceDecl) (texts : Texts) (verdicts : List ℕ → ModuleVerdict) (module_name name : List ℕ)
    (it : Standing) → AreVerdicts devices texts verdicts → standing_in texts verdicts module_name name ≡ Ok it
    → (stands : StandsInPresentModule devices texts verdicts it.imports it.findings it.before it.definition)
    × (stands.name ≡ module_name) × (it.definition.name ≡ name)

-- a definition that stands in a present module is found by its name
abbrev pub StandingDefinitionsAreFound : Type 0
StandingDefinitionsAreFound =
    (devices : List DeviceDecl) (texts : Texts) (verdicts : List ℕ → ModuleVerdict) (imports : List ImportSyntax)
    (findings : List Finding) (before : List CheckedDefinition) (one : CheckedDefinition)
    → NamesOfDevicesDiffer devices → ArePresent texts → AreVerdicts devices texts verdicts
    → (stands : StandsInPresentModule devices texts verdicts imports findings before one)
    → standing_in texts verdicts stands.name one.name
    ≡ Ok (record { imports = imports; findings = findings; before = before; definition = one })

-- Nothing but the present texts decides what is found.
abbrev pub StandingDefinitionsAreOfTexts : Type 0
StandingDefinitionsAreOfTexts =
    (devices : List DeviceDecl) (texts : Texts) (first second : List ℕ → ModuleVerdict) → ArePresent texts
    → AreVerdicts devices texts first → AreVerdicts devices texts second
    → (module_name name : List ℕ)
    → standing_in texts first module_name name ≡ standing_in texts second module_name name

-- The definition is accepted as one that fits the globals before it, and the context of its right side is that where it
-- stands.
abbrev pub StandingDefinitionsAreAccepted : Type 0
StandingDefinitionsAreAccepted =
    (devices : List DeviceDecl) (texts : Texts) (verdicts : List ℕ → ModuleVerdict) (module_name name : List ℕ)
    (it : Standing) → NamesOfDevicesDiffer devices → ArePresent texts → AreVerdicts devices texts verdicts
    → standing_in texts verdicts module_name name ≡ Ok it
    → (globals : Context) × (definition : Definition) × Fits globals definition
    × HasVerdict (length devices) globals definition (definitions.IsAccepted it.definition.accepted)
    × (standing_context devices it ≡ definition_context globals definition it.definition.accepted.signature)
