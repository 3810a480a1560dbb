-- The parts of an entry as the code makes them. It serves the code alone.
use Rattle.std.specs.Prelude.{◌≡◌, ℕ, List, ◌++◌, filter, map, Some, Ok}
use Rattle.cc_base.specs.declared.device.DeviceDecl.{DeviceDecl}
use Rattle.cc_session.specs.declared.modules.EntryModule.{EntryModule}
use Rattle.cc_session.specs.Modules.{module_of}
use Rattle.cc_entry_laws.specs.PresentEntries.{CheckedEntry, started_or, started_in, present_module, IsEntryOf}
use Rattle.cc_graph.specs.Graph.{IsOrder}
use Rattle.cc_verdicts.specs.ModuleVerdicts.{CheckedDefinition, ModuleVerdict}
use Rattle.cc_verdicts.specs.PresentTexts.{Texts, graph_of, AreVerdicts}
use Rattle.cc_module.specs.declared.judgement.ModuleVerdict.{ModuleVerdict as DeclaredVerdict}
use Rattle.cc_module.specs.Judgements.{module_verdict_of}
use Rattle.cc_entry_laws.specs.LinkOrders.{is_reached}

-- the present modules have these verdicts, in order
abbrev pub HaveVerdicts : Texts → (List ℕ → ModuleVerdict) → List (List ℕ × DeclaredVerdict) → Type 0
HaveVerdicts texts all verdicts = map (λ one. module_verdict_of one.1) verdicts ≡ map (λ one. all one.0) texts

-- the modules are those of the names
abbrev pub ArePresentModules : Texts → List (List ℕ × DeclaredVerdict) → List EntryModule → List (List ℕ) → Type 0
ArePresentModules texts verdicts modules names =
    (all : List ℕ → ModuleVerdict) → HaveVerdicts texts all verdicts
    → map module_of modules ≡ map (present_module texts all) names

-- those of the names come behind the others
abbrev pub AddsPresent : Texts → List (List ℕ × DeclaredVerdict) → List (List ℕ) → List EntryModule → List EntryModule
    → Type 0
AddsPresent texts verdicts names old new =
    (all : List ℕ → ModuleVerdict) → HaveVerdicts texts all verdicts
    → map module_of new ≡ map module_of old ++ map (present_module texts all) names

-- they are the module and those that it reaches, in the order of the graph
abbrev pub AreReachedModules : Texts → List (List ℕ × DeclaredVerdict) → List ℕ → List EntryModule → Type 0
AreReachedModules texts verdicts from modules =
    (names : List (List ℕ)) × IsOrder (graph_of texts) names
    × ArePresentModules texts verdicts modules (filter (is_reached (graph_of texts) from) names)

-- the verdicts are those of the present modules
abbrev pub HaveCurrentVerdicts : List DeviceDecl → Texts → List (List ℕ × DeclaredVerdict) → Type 0
HaveCurrentVerdicts devices texts verdicts =
    (all : List ℕ → ModuleVerdict) × AreVerdicts devices texts all × HaveVerdicts texts all verdicts

-- this is the definition that is run
abbrev pub IsStarted : List DeviceDecl → Texts → List ℕ → List ℕ → CheckedDefinition → Type 0
IsStarted devices texts module_name name started =
    (all : List ℕ → ModuleVerdict) → AreVerdicts devices texts all → started_in texts all module_name name ≡ Ok started

-- this is the definition of the names, whether it takes a unit or not
abbrev pub IsDefinitionOf : List DeviceDecl → Texts → List ℕ → List ℕ → CheckedDefinition → Type 0
IsDefinitionOf devices texts module_name name found =
    (all : List ℕ → ModuleVerdict) → AreVerdicts devices texts all
    → started_in texts all module_name name ≡ started_or (Some found)

-- this is its entry
abbrev pub IsCurrentEntry : List DeviceDecl → Texts → List ℕ → List ℕ → CheckedDefinition → CheckedEntry → Type 0
IsCurrentEntry devices texts module_name name started entry =
    (all : List ℕ → ModuleVerdict) → AreVerdicts devices texts all
    → IsEntryOf devices texts all module_name name started entry
