-- Entries as those of programs: modules without places and notes.
use Rattle.std.proofs.Common.{◌≡◌, ℕ, true, List, [], ◌∷◌, length, map, ap}
use Rattle.std.specs.Prelude.{◌↔◌}
use Rattle.std.specs.List.{AllByRecursion}
use Rattle.cc_base.specs.declared.device.DeviceDecl.{DeviceDecl}
use Rattle.cc_core.specs.Programs.{Definition, Module, Entry, is_listed, AreInOrder}
use Rattle.cc_core.specs.Stores.{authority}
use Rattle.cc_device.specs.Declarations.{declared_bases}
use Rattle.cc_entry_laws.specs.PresentEntries as checked
use Rattle.cc_entry_laws.specs.PresentEntries.{CheckedModule, CheckedEntry, program_module, program_entry, IsReached, IsEntryOf}
use Rattle.cc_verdicts.specs.ModuleVerdicts.{CheckedDefinition, ModuleVerdict, in_program}
use Rattle.cc_verdicts.specs.PresentTexts.{Texts, graph_of}

-- the definitions of a module with this verdict, as those of a program
abbrev pub definitions_of : ModuleVerdict → List Definition
definitions_of verdict = map in_program (checked.definitions_of verdict)

-- the present module of the name, as one of a program
abbrev pub present_module : Texts → (List ℕ → ModuleVerdict) → List ℕ → Module
present_module texts verdicts name = program_module (checked.present_module texts verdicts name)

-- the entry of a definition of a module, as that of a program
pub record IsPlainEntryOf (devices : List DeviceDecl) (texts : Texts) (verdicts : List ℕ → ModuleVerdict)
    (module_name name : List ℕ) (started : CheckedDefinition) (entry : Entry) : Type 0 where
  pub shapes : entry.devices ≡ declared_bases devices
  pub present : AllByRecursion (λ current. current ≡ present_module texts verdicts current.name) entry.modules
  pub reached : (other : List ℕ) → (is_listed entry.modules other ≡ true) ↔ IsReached (graph_of texts) module_name other
  pub order : AreInOrder entry.modules
  pub of_module : entry.module_name ≡ module_name
  pub of_definition : entry.definition_name ≡ name
  pub permits : entry.authority ≡ authority (length devices) started.accepted.signature.set

-- present modules are present ones of a program
pub plain_modules : (texts : Texts) (verdicts : List ℕ → ModuleVerdict) (modules : List CheckedModule)
    → AllByRecursion (λ current. current ≡ checked.present_module texts verdicts current.name) modules
    → AllByRecursion (λ current. current ≡ present_module texts verdicts current.name) (map program_module modules)
plain_modules texts verdicts [] present = tt
plain_modules texts verdicts (first ∷ rest) present =
    (ap program_module present.0, plain_modules texts verdicts rest present.1)

pub plain_entry : (devices : List DeviceDecl) (texts : Texts) (verdicts : List ℕ → ModuleVerdict)
    (module_name name : List ℕ) (started : CheckedDefinition) (entry : CheckedEntry)
    → IsEntryOf devices texts verdicts module_name name started entry
    → IsPlainEntryOf devices texts verdicts module_name name started (program_entry entry)
plain_entry devices texts verdicts module_name name started entry is = record {
  shapes = is.shapes;
  present = plain_modules texts verdicts entry.modules is.present;
  reached = is.reached;
  order = is.order;
  of_module = is.of_module;
  of_definition = is.of_definition;
  permits = is.permits;
}
