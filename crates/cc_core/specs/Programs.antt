-- Checked modules, and the entry of a program: modules that import from each other, and the definition that is run.
-- Names are lists of code points. Modules, imports and definitions are listed in order, the first one first. Contexts
-- list the newest first, so the functions here take the lists turned round: what stands behind an item is what came
-- before it.
use Rattle.std.specs.Prelude.{◌≡◌, ℕ, Bool, true, ◌&&◌, List, [], ◌∷◌, ◌++◌, map, reverse, length, Option, Some, None}
use Rattle.std.specs.Prelude.{is_some, IsTrue, if◌then◌else◌}
use Rattle.std.specs.List.{AllByRecursion, IsDistinct, list_all, list_any}
use Rattle.std.specs.Str.{bytes_eq}
use Rattle.cc_base.specs.Names.{is_name_before}
use Rattle.cc_base.specs.declared.literal.Base.{Base}
use Rattle.cc_base.specs.declared.literal.Base.TheVariants as bases
use Rattle.cc_capture.specs.declared.var.Elem.TheVariants.{Cap}
use Rattle.cc_capture.specs.Sets.{Set}
use Rattle.cc_core.specs.Shapes.{Shape, BaseShape, FunctionShape, CapturingType}
use Rattle.cc_core.specs.Terms.{Term}
use Rattle.cc_core.specs.Contexts.{Bind, TermEntry, Context, entry_of}
use Rattle.cc_core.specs.Substitution.{single}
use Rattle.cc_core.specs.Occurrences.{MeetsInType, positions_below}
use Rattle.cc_core.specs.Captured.{is_value}
use Rattle.cc_core.specs.Typing.{HasType}
use Rattle.cc_core.specs.Stores.{is_device_base, is_function, authority}

-- an import: the name of a module, and that of one of its definitions
pub record Import : Type 0 where
  pub module_name : List ℕ
  pub definition_name : List ℕ

-- A definition that was checked: its name, its value, the type of its signature, and whether it is recursive, so that
-- its value may name it. The variables of the value are positions of the context that it was checked in.
pub record Definition : Type 0 where
  pub name : List ℕ
  pub value : Term
  pub signature : CapturingType
  pub is_recursive : Bool

-- a module that was checked: its name, its imports and its definitions
pub record Module : Type 0 where
  pub name : List ℕ
  pub imports : List Import
  pub definitions : List Definition

-- An entry: the base shapes of the devices, by their numbers; the modules, each of which comes after those that it
-- imports from; the names of the module and of the definition that is run; and the devices that it may operate.
pub record Entry : Type 0 where
  pub devices : List Base
  pub modules : List Module
  pub module_name : List ℕ
  pub definition_name : List ℕ
  pub authority : List ℕ

-- the definition of the name, if there is one
abbrev pub definition_named : List ℕ → List Definition → Option Definition
definition_named name [] = None
definition_named name (newest ∷ older) =
    if bytes_eq newest.name name then Some newest else definition_named name older

-- the definition that the name of a module and its own stand for, if there is one
abbrev pub definition_in : List ℕ → List ℕ → List Module → Option Definition
definition_in module_name name [] = None
definition_in module_name name (newest ∷ older) =
    if bytes_eq newest.name module_name
    then definition_named name (reverse newest.definitions)
    else definition_in module_name name older

-- the definition of an earlier module that an import names, if there is one
abbrev pub imported : List Module → Import → Option Definition
imported earlier names = definition_in names.module_name names.definition_name earlier

-- the entry of a device of the base shape, which captures the universal capability
abbrev pub device_entry : Base → Bind
device_entry base = TermEntry (BaseShape base) (single Cap)

-- the context of devices
abbrev pub device_context : List Base → Context
device_context devices = map device_entry (reverse devices)

-- the context with the signature of a definition, if there is one
abbrev pub with_signature : Option Definition → Context → Context
with_signature (Some definition) context = entry_of definition.signature ∷ context
with_signature None context = context

-- the context with the signatures of what a module imports from earlier ones
abbrev pub import_context : Context → List Module → List Import → Context
import_context context earlier [] = context
import_context context earlier (newest ∷ older) =
    with_signature (imported earlier newest) (import_context context earlier older)

-- the context with the signatures of definitions
abbrev pub definition_context : Context → List Definition → Context
definition_context context definitions = map (λ definition. entry_of definition.signature) definitions ++ context

-- the context that a definition is checked in, after those before it: a recursive one has its own signature last
abbrev pub own_context : Context → Definition → Context
own_context context definition = if definition.is_recursive then entry_of definition.signature ∷ context else context

-- Each definition has the type of its signature, in the context with the signatures of those before it.
abbrev pub AreTyped : Context → List Definition → Type 0
AreTyped context [] = Unit {0}
AreTyped context (newest ∷ older) =
    HasType (own_context (definition_context context older) newest) newest.value newest.signature
    × AreTyped context older

-- a definition is a value, and a recursive one is a function
abbrev pub is_definable : Definition → Bool
is_definable definition = if definition.is_recursive then is_function definition.value else is_value definition.value

-- no variable is free in the type but those of the devices
abbrev pub NamesDevicesOnly : List Base → CapturingType → Type 0
NamesDevicesOnly devices type = MeetsInType (positions_below (length devices)) 0 type

-- what is said of a module and of those before it holds for each module
abbrev pub OfEachModule : (List Module → Module → Type 0) → List Module → Type 0
OfEachModule holds [] = Unit {0}
OfEachModule holds (newest ∷ older) = holds older newest × OfEachModule holds older

-- the definitions of the module are values
abbrev pub AreDefinable : List Module → Module → Type 0
AreDefinable earlier current =
    AllByRecursion (λ definition. IsTrue (is_definable definition)) (reverse current.definitions)

-- no two definitions of the module have one name
abbrev pub NamesDiffer : List Module → Module → Type 0
NamesDiffer earlier current = IsDistinct bytes_eq (map (λ definition. definition.name) current.definitions)

-- the signatures of the module name devices alone
abbrev pub SignaturesNameDevices : List Base → List Module → Module → Type 0
SignaturesNameDevices devices earlier current =
    AllByRecursion (λ definition. NamesDevicesOnly devices definition.signature) (reverse current.definitions)

-- each import of the module names a definition of an earlier one
abbrev pub ImportsAreThere : List Module → Module → Type 0
ImportsAreThere earlier current =
    AllByRecursion (λ names. IsTrue (is_some (imported earlier names))) (reverse current.imports)

-- Each definition of the module has the type of its signature, in the context of the devices, the imported signatures
-- and the signatures before it.
abbrev pub IsTypedModule : List Base → List Module → Module → Type 0
IsTypedModule devices earlier current =
    AreTyped (import_context (device_context devices) earlier (reverse current.imports)) (reverse current.definitions)

-- whether the name is that of one of the modules
abbrev pub is_listed : List Module → List ℕ → Bool
is_listed listed name = list_any (λ current. bytes_eq current.name name) listed

-- whether all that the module imports is from modules that are listed
abbrev pub is_ready : List Module → Module → Bool
is_ready listed current = list_all (λ names. is_listed listed names.module_name) current.imports

-- The modules, turned round, stand in the order in which they are linked, before others that wait: the next one is
-- always the first by name of those that are not yet listed and import from listed modules alone.
abbrev pub are_in_order : List Module → List Module → Bool
are_in_order waiting [] = true
are_in_order waiting (newest ∷ older) =
    is_ready older newest
    && list_all (λ other. if is_ready older other then is_name_before newest.name other.name else true) waiting
    && are_in_order (newest ∷ waiting) older

abbrev pub AreInOrder : List Module → Type 0
AreInOrder modules = IsTrue (are_in_order [] (reverse modules))

-- What an entry of accepted modules has: devices of device shapes; values for definitions; different names; signatures
-- that name devices alone; imports from earlier modules; typed definitions; a definition that is run, which takes unit;
-- and the devices that the signature of that one gives leave to use, as its authority.
pub record IsEntry (entry : Entry) : Type 0 where
  pub devices : IsTrue (list_all is_device_base entry.devices)
  pub values : OfEachModule AreDefinable (reverse entry.modules)
  pub module_names : IsDistinct bytes_eq (map (λ current. current.name) entry.modules)
  pub names : OfEachModule NamesDiffer (reverse entry.modules)
  pub signatures : OfEachModule (SignaturesNameDevices entry.devices) (reverse entry.modules)
  pub imports : OfEachModule ImportsAreThere (reverse entry.modules)
  pub typed : OfEachModule (IsTypedModule entry.devices) (reverse entry.modules)
  pub started : Definition
  pub found : definition_in entry.module_name entry.definition_name (reverse entry.modules) ≡ Some started
  pub takes_set : Set
  pub gives : Shape
  pub gives_set : Set
  pub takes_unit : started.signature.shape ≡ FunctionShape (BaseShape bases.Unit) takes_set gives gives_set
  pub authority : entry.authority ≡ authority (length entry.devices) started.signature.set
