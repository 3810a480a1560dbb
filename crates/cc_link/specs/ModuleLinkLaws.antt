-- The laws of the links of modules.
use Rattle.std.specs.Prelude.{◌≡◌, ℕ, ◌+◌, List, [], ◌∷◌, ◌++◌, map, length, Some}
use Rattle.std.specs.List.{AllByRecursion, filter_map}
use Rattle.cc_base.specs.declared.device.DeviceDecl.{DeviceDecl}
use Rattle.cc_core.specs.Programs.{Module}
use Rattle.cc_explain.specs.declared.target.Target.{Target}
use Rattle.cc_explain.specs.declared.target.Target.TheVariants as targets
use Rattle.cc_explain.specs.Entries.{NamesEarlier, targets_of}
use Rattle.cc_entry_laws.specs.PresentEntries.{CheckedModule, program_module}
use Rattle.cc_entry_laws.specs.PresentLinks as names
use Rattle.cc_verdicts.specs.ModuleVerdicts.{Finding, CheckedDefinition}
use Rattle.cc_runs.specs.Links.{count_definitions, position_in}
use Rattle.cc_link.specs.ModuleLinks.{links_in}

-- the entries of modules name earlier entries alone
abbrev pub EntriesNameEarlier : Type 0
EntriesNameEarlier = (devices : ℕ) (modules : List CheckedModule) → NamesEarlier (links_in devices modules)

-- what a target is, where definitions have numbers
abbrev pub numbered : (List ℕ → List ℕ → ℕ) → names.Target → Target
numbered number (names.DefinitionOf module_name name) = targets.Definition (number module_name name)
numbered number (names.DeviceAt device) = targets.Device device
numbered number names.Universal = targets.Cap

-- the definitions of the module have numbers one after the other, from the first on
abbrev pub AreNumbered : (List ℕ → List ℕ → ℕ) → List ℕ → ℕ → List CheckedDefinition → Type 0
AreNumbered number module_name first [] = Unit {0}
AreNumbered number module_name first (one ∷ rest) =
    (number module_name one.name ≡ first) × AreNumbered number module_name (first + 1) rest

-- the modules, turned round, before others that are
abbrev pub modules_turned : List Module → List CheckedModule → List Module
modules_turned before [] = before
modules_turned before (one ∷ rest) = modules_turned (program_module one ∷ before) rest

-- The entry of a definition has what the elements of the outermost set of its type stand for by its names, in order, each
-- with its number: where what its module imports has the numbers that it is found by among the earlier modules, and the
-- definitions before it have theirs, one after the other behind those of the earlier modules.
abbrev pub EntriesAreNumbered : Type 0
EntriesAreNumbered =
    (devices : List DeviceDecl) (earlier : List CheckedModule) (current : CheckedModule) (later : List CheckedModule)
    (findings : List Finding) (before : List CheckedDefinition) (one : CheckedDefinition)
    (after : List CheckedDefinition) (number : List ℕ → List ℕ → ℕ)
    → current.definitions ≡ before ++ one ∷ after
    → AllByRecursion
    (λ import. position_in 0 import.source import.name (modules_turned [] earlier)
    ≡ Some (number import.source import.name)) current.imports
    → AreNumbered number current.name (count_definitions (modules_turned [] earlier)) before
    → targets_of (links_in (length devices) (earlier ++ current ∷ later))
    (targets.Definition (count_definitions (modules_turned [] earlier) + length before))
    ≡ map (numbered number)
    (filter_map
    (names.target_of
    (names.earlier_targets devices current.name
    (record { imports = current.imports; findings = findings; before = before; definition = one })))
    one.accepted.type.set.list)
