-- What the parts of an entry stand for.
use Rattle.std.specs.Prelude.{ℕ, List, map}
use Rattle.cc_base.specs.declared.literal.Base.{Base}
use Rattle.cc_session.specs.declared.modules.EntryModule.{EntryModule}
use Rattle.cc_entry_laws.specs.PresentEntries.{CheckedModule, CheckedEntry}
use Rattle.cc_module.specs.Judgements.{checked_definition_of}
use Rattle.cc_parse.specs.Trees.{import_syntax}

-- a module
abbrev pub module_of : EntryModule → CheckedModule
module_of it = record {
  name = it.name;
  imports = map import_syntax it.imports.items;
  definitions = map checked_definition_of it.defs.items;
}

-- the entry of these parts
abbrev pub entry_in : List Base → List EntryModule → List ℕ → List ℕ → List ℕ → CheckedEntry
entry_in devices modules module_name definition_name authority = record {
  devices = devices;
  modules = map module_of modules;
  module_name = module_name;
  definition_name = definition_name;
  authority = authority;
}
