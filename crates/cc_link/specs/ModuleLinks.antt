-- The links of the definitions of modules in order, where definitions are numbered: those of earlier modules first, and
-- those of one module in their order. Modules that stand before others are turned round.
use Rattle.std.specs.Prelude.{ℕ, zero, suc, ◌+◌, List, [], ◌∷◌, ◌++◌, Option, Some, None, option_map}
use Rattle.std.specs.List.{filter_map}
use Rattle.std.specs.Option.{unwrap_or}
use Rattle.cc_capture.specs.declared.var.Var.{Var}
use Rattle.cc_capture.specs.declared.var.Var.TheVariants.{Bound, Free}
use Rattle.cc_capture.specs.declared.var.Elem.{Elem}
use Rattle.cc_capture.specs.declared.var.Elem.TheVariants.{Var as Variable, Cap, Hole}
use Rattle.cc_core.specs.Contexts.{lookup}
use Rattle.cc_core.specs.Programs.{Module}
use Rattle.cc_explain.specs.declared.target.Target.{Target}
use Rattle.cc_explain.specs.declared.target.Target.TheVariants as targets
use Rattle.cc_explain.specs.Entries.{Entries}
use Rattle.cc_grammar.specs.Syntax.{ImportSyntax}
use Rattle.cc_entry_laws.specs.PresentEntries.{CheckedModule, program_module}
use Rattle.cc_verdicts.specs.ModuleVerdicts.{CheckedDefinition}
use Rattle.cc_runs.specs.Links.{count_definitions, position_in}

-- What positions stand for, the newest first. One of an import that names no definition stands for nothing.
abbrev pub Positions : Type 0
Positions = List (Option Target)

-- the devices, by number
abbrev pub device_positions : ℕ → Positions
device_positions zero = []
device_positions (suc number) = Some (targets.Device number) ∷ device_positions number

-- what an import names, where definitions are found so
abbrev pub imported_target : (List ℕ → List ℕ → Option ℕ) → ImportSyntax → Option Target
imported_target find one = option_map (λ number. targets.Definition number) (find one.source one.name)

-- with what imports name, in order
abbrev pub with_imports : (List ℕ → List ℕ → Option ℕ) → Positions → List ImportSyntax → Positions
with_imports find positions [] = positions
with_imports find positions (one ∷ rest) = with_imports find (imported_target find one ∷ positions) rest

-- what a variable stands for
abbrev pub variable_target : Positions → Var → Option Target
variable_target positions (Free position) = unwrap_or (lookup positions position) None
variable_target positions (Bound index) = None

-- what an element of a set stands for
abbrev pub element_target : Positions → Elem → Option Target
element_target positions (Variable variable) = variable_target positions variable
element_target positions Cap = Some targets.Cap
element_target positions (Hole number) = None

-- the entry of a definition with these elements in the outermost set of its type
abbrev pub definition_entry : Positions → List Elem → List Target
definition_entry positions elements = filter_map (element_target positions) elements

-- the entries of definitions, which are numbered from a number on; each sees those before it
abbrev pub definition_entries : Positions → ℕ → List CheckedDefinition → Entries
definition_entries positions number [] = []
definition_entries positions number (one ∷ rest) =
    definition_entry positions one.accepted.type.set.list
    ∷ definition_entries (Some (targets.Definition number) ∷ positions) (number + 1) rest

-- the entries of a module behind earlier ones, beside so many devices
abbrev pub module_entries : ℕ → List Module → CheckedModule → Entries
module_entries devices earlier current =
    definition_entries
    (with_imports (λ module_name name. position_in 0 module_name name earlier) (device_positions devices) current.imports)
    (count_definitions earlier) current.definitions

-- the entries of modules behind earlier ones
abbrev pub entries_behind : ℕ → List Module → List CheckedModule → Entries
entries_behind devices earlier [] = []
entries_behind devices earlier (current ∷ rest) =
    module_entries devices earlier current ++ entries_behind devices (program_module current ∷ earlier) rest

-- the entries of modules
abbrev pub links_in : ℕ → List CheckedModule → Entries
links_in devices modules = entries_behind devices [] modules
