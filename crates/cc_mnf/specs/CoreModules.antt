-- The elaborated modules that values of the program stand for, and what is answered for a module.
use Rattle.std.specs.Prelude.{◌≡◌, List, map, Result, Ok, Err, Vec}
use Rattle.std.specs.declared.alloc.Global.{Global}
use Rattle.cc_core.specs.declared.terms.CoreDef.{CoreDef}
use Rattle.cc_core.specs.TermViews.{note_of, term_of}
use Rattle.cc_core.specs.Places.{places_of}
use Rattle.cc_parse.specs.Trees.{imports_syntax}
use Rattle.cc_mnf.specs.declared.elaborate.CoreModule.{CoreModule as DeclaredModule}
use Rattle.cc_mnf.specs.declared.error.ElaborateError.{ElaborateError}
use Rattle.cc_mnf.specs.declared.error.ElaborateError.TheVariants as errors
use Rattle.cc_mnf.specs.ElaboratedModules.{CoreDefinition, CoreModule, Elaboration, IsElaborated, IsRefused}

-- the definition
abbrev pub definition_of : CoreDef → CoreDefinition
definition_of it = record {
  name = it.name;
  name_at = it.name_at;
  note = note_of it.note;
  recursive = it.recursive;
  right = term_of it.right.value;
  places = places_of it.right.value;
}

-- the definitions, in order
abbrev pub core_definitions : Vec CoreDef Global → List CoreDefinition
core_definitions definitions = map definition_of definitions.items

-- the module
abbrev pub core_module : DeclaredModule → CoreModule
core_module it = record { imports = imports_syntax it.imports; definitions = core_definitions it.defs }

-- The answer is the elaboration, unless there is no memory.
abbrev pub Elaborates : Result DeclaredModule ElaborateError → Elaboration → Type 0
Elaborates (Ok it) elaboration = elaboration ≡ IsElaborated (core_module it)
Elaborates (Err (errors.Refused diag)) elaboration = elaboration ≡ IsRefused diag.code diag.place
Elaborates (Err errors.NoMemory) elaboration = Unit {0}
