-- The entry of a definition of a present module: what its program is linked from. Nothing but the present texts and
-- their verdicts decides it.
use Rattle.std.specs.Prelude.{◌≡◌, ◌⊎◌, ◌↔◌, ℕ, Bool, true, false, List, [], length, map, Option, Some, None}
use Rattle.std.specs.Prelude.{Result, Ok, Err, IsTrue, if◌then◌else◌}
use Rattle.std.specs.List.{AllByRecursion}
use Rattle.std.specs.Option.{unwrap_or, is_some}
use Rattle.cc_base.specs.declared.code.Code.{Code}
use Rattle.cc_base.specs.declared.code.Code.TheVariants.{E32, E33, E34, E35}
use Rattle.cc_base.specs.declared.device.DeviceDecl.{DeviceDecl}
use Rattle.cc_base.specs.declared.literal.Base.{Base}
use Rattle.cc_base.specs.declared.literal.Base.TheVariants as bases
use Rattle.cc_core.specs.Programs.{Import, Module, Entry, is_listed, AreInOrder}
use Rattle.cc_core.specs.Shapes.{Shape, BaseShape, AnyShape, TypeVariable, FunctionShape, TypeFunctionShape, BoxShape}
use Rattle.cc_core.specs.Shapes.{ExitShape}
use Rattle.cc_core.specs.Stores.{authority}
use Rattle.cc_device.specs.Declarations.{declared_bases}
use Rattle.cc_grammar.specs.Syntax.{ImportSyntax}
use Rattle.cc_graph.specs.Graph.{ImportMap, Reaches}
use Rattle.cc_verdicts.specs.ModuleVerdicts.{CheckedDefinition, ModuleVerdict, IsAccepted, IsRefused, in_program}
use Rattle.cc_verdicts.specs.PresentTexts.{Texts, text_of, graph_of, definition_named}
use Rattle.cc_verdicts.specs.Readings.{imports_of}

-- whether a base shape is that of unit
abbrev pub is_unit_base : Base → Bool
is_unit_base bases.Unit = true
is_unit_base bases.Bool = false
is_unit_base bases.Int = false
is_unit_base bases.Str = false
is_unit_base bases.Console = false
is_unit_base bases.File = false
is_unit_base bases.Counter = false

-- whether a shape is
abbrev pub is_unit : Shape → Bool
is_unit (BaseShape base) = is_unit_base base
is_unit AnyShape = false
is_unit (TypeVariable variable) = false
is_unit (FunctionShape takes c gives e) = false
is_unit (TypeFunctionShape bound gives e) = false
is_unit (BoxShape content c) = false
is_unit (ExitShape gives) = false

-- whether values of the shape are functions that take a unit, with whatever set
abbrev pub takes_unit : Shape → Bool
takes_unit (FunctionShape takes c gives e) = is_unit takes
takes_unit (BaseShape base) = false
takes_unit AnyShape = false
takes_unit (TypeVariable variable) = false
takes_unit (TypeFunctionShape bound gives e) = false
takes_unit (BoxShape content c) = false
takes_unit (ExitShape gives) = false

-- the definition, if there is one and it takes a unit
abbrev pub started_or : Option CheckedDefinition → Result CheckedDefinition Code
started_or (Some definition) = if takes_unit definition.accepted.signature.shape then Ok definition else Err E35
started_or None = Err E33

-- the definition of a module with this verdict
abbrev pub started_by : ModuleVerdict → List ℕ → Result CheckedDefinition Code
started_by (IsAccepted definitions) name = started_or (definition_named name definitions)
started_by (IsRefused code at) name = Err E34

-- The definition that is run, or why there is none, where modules have these verdicts: the first of that the module is
-- not present, is not accepted, has no definition of the name, and that this one does not take a unit.
abbrev pub started_in : Texts → (List ℕ → ModuleVerdict) → List ℕ → List ℕ → Result CheckedDefinition Code
started_in texts verdicts module_name name =
    if is_some (text_of texts module_name) then started_by (verdicts module_name) name else Err E32

-- a module of an entry as it was checked: its name, its imports with their places, and its checked definitions
pub record CheckedModule : Type 0 where
  pub name : List ℕ
  pub imports : List ImportSyntax
  pub definitions : List CheckedDefinition

-- An entry with its modules as they were checked: the base shapes of the devices; the modules; the names of the module
-- and of the definition that is run; and the devices that it may operate.
pub record CheckedEntry : Type 0 where
  pub devices : List Base
  pub modules : List CheckedModule
  pub module_name : List ℕ
  pub definition_name : List ℕ
  pub authority : List ℕ

-- an import as one of a program, which has no places
abbrev pub import_of : ImportSyntax → Import
import_of one = record { module_name = one.source; definition_name = one.name }

-- a module as one of a program, of whose definitions the filled values and the signatures are left
abbrev pub program_module : CheckedModule → Module
program_module it = record {
  name = it.name;
  imports = map import_of it.imports;
  definitions = map in_program it.definitions;
}

-- the entry of the program
abbrev pub program_entry : CheckedEntry → Entry
program_entry it = record {
  devices = it.devices;
  modules = map program_module it.modules;
  module_name = it.module_name;
  definition_name = it.definition_name;
  authority = it.authority;
}

-- the definitions of a module with this verdict; a refused one has none
abbrev pub definitions_of : ModuleVerdict → List CheckedDefinition
definitions_of (IsAccepted definitions) = definitions
definitions_of (IsRefused code at) = []

-- the present module of the name: with the imports of its text and the definitions of its verdict
abbrev pub present_module : Texts → (List ℕ → ModuleVerdict) → List ℕ → CheckedModule
present_module texts verdicts name = record {
  name = name;
  imports = unwrap_or (imports_of (unwrap_or (text_of texts name) [])) [];
  definitions = definitions_of (verdicts name);
}

-- the module is that one, or imports lead from that one to it
abbrev pub IsReached : ImportMap → List ℕ → List ℕ → Type 0
IsReached imports from name = (name ≡ from) ⊎ Reaches imports from name

-- The entry of a definition of a module, where modules have these verdicts. It has the shapes of the devices; the
-- module and all that it reaches, each with exactly the imports of its text and the definitions of its verdict, in the
-- order in which they are linked, where the next one is always the first by name of those that are not yet listed and
-- import from listed ones alone; and the devices that the signature of the definition gives leave to use.
pub record IsEntryOf (devices : List DeviceDecl) (texts : Texts) (verdicts : List ℕ → ModuleVerdict)
    (module_name name : List ℕ) (started : CheckedDefinition) (entry : CheckedEntry) : Type 0 where
  pub shapes : entry.devices ≡ declared_bases devices
  pub present : AllByRecursion (λ current. current ≡ present_module texts verdicts current.name) entry.modules
  pub reached : (other : List ℕ) → IsTrue (is_listed (map program_module entry.modules) other)
      ↔ IsReached (graph_of texts) module_name other
  pub order : AreInOrder (map program_module entry.modules)
  pub of_module : entry.module_name ≡ module_name
  pub of_definition : entry.definition_name ≡ name
  pub permits : entry.authority ≡ authority (length devices) started.accepted.signature.set
