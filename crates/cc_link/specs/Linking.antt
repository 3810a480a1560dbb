-- What is kept while the modules of an entry are linked, one after the other.
use Rattle.std.specs.Prelude.{◌≡◌, ℕ, List, map, reverse, take, length}
use Rattle.std.specs.List.{range_with_len}
use Rattle.cc_base.specs.declared.literal.Base.{Base}
use Rattle.cc_core.specs.Contexts.{Context}
use Rattle.cc_core.specs.Programs.{Import, Definition, Module, Entry}
use Rattle.cc_session.specs.declared.entry.Entry.{Entry as DeclaredEntry}
use Rattle.cc_session.specs.declared.modules.EntryModule.{EntryModule}
use Rattle.cc_session.specs.Entries.{entry_of}
use Rattle.cc_session.specs.Modules.{module_of}
use Rattle.cc_entry_laws.specs.PresentEntries.{program_module, program_entry}
use Rattle.cc_link.specs.declared.table.ModuleTable.{ModuleTable}
use Rattle.cc_link.specs.Tables.{Finds}
use Rattle.cc_verdicts.specs.ModuleVerdicts.{in_program}
use Rattle.cc_runs.specs.Links.{linked_position, linked_store, linked_context}
use Rattle.cc_module.specs.declared.judgement.CheckedDef.{CheckedDef}
use Rattle.cc_module.specs.Judgements.{checked_definition_of}
use Rattle.cc_machine.specs.declared.program.Program.{Program}
use Rattle.cc_machine.specs.declared.values.TypedValue.{TypedValue}
use Rattle.cc_machine.specs.Programs.{shapes_of, values_of}
use Rattle.cc_machine.specs.Starts.{value_store, value_context, program_context}

-- a definition, as one of a program
abbrev pub definition_of : CheckedDef → Definition
definition_of it = in_program (checked_definition_of it)

-- a module, as one of a program
abbrev pub module_in_program : EntryModule → Module
module_in_program it = program_module (module_of it)

-- an entry, as that of a program
abbrev pub entry_in_program : DeclaredEntry → Entry
entry_in_program it = program_entry (entry_of it)

-- the declared types of the cells of a program, the newest first: of its devices, of its values, and of the cell with unit
abbrev pub types_in : Program → Context
types_in program = program_context (shapes_of program) (values_of program)

-- The list has, in order, where the positions of a module's context stand in the store: beside so many devices, behind
-- earlier modules, which are turned round, and with these imports.
abbrev pub ArePositions : ℕ → List Module → List Import → List ℕ → Type 0
ArePositions devices earlier imports to =
    to ≡ map (linked_position devices earlier (reverse imports)) (range_with_len 0 (length to))

-- the modules of an entry before the one at an index, turned round
abbrev pub modules_before : DeclaredEntry → ℕ → List Module
modules_before entry index = reverse (take index (entry_in_program entry).modules)

-- The modules, which are turned round, are linked: the values with the devices are their store, with its context, and the
-- table finds their definitions.
pub record IsLinked (devices : List Base) (modules : List Module) (values : List TypedValue) (table : ModuleTable)
    : Type 0 where
  pub store : value_store devices values ≡ linked_store devices modules
  pub context : value_context devices values ≡ linked_context devices modules
  pub finds : Finds (length devices) modules table
