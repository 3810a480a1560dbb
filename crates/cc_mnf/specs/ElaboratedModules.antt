-- The elaboration of modules. Devices, imports and definitions have different names, and stand at the free positions in
-- this order. Each definition sees the names before it, and its own in its right side where it is recursive.
use Rattle.std.specs.Prelude.{ℕ, zero, Bool, true, false, List, [], ◌∷◌, ◌++◌, map, if◌then◌else◌}
use Rattle.std.specs.List.{list_any}
use Rattle.std.specs.Str.{bytes_eq}
use Rattle.cc_base.specs.declared.code.Code.{Code}
use Rattle.cc_base.specs.declared.code.Code.TheVariants.{E09, E12}
use Rattle.cc_base.specs.declared.place.Place.{Place}
use Rattle.cc_base.specs.declared.device.DeviceDecl.{DeviceDecl}
use Rattle.cc_core.specs.Captured.{is_value}
use Rattle.cc_core.specs.Places.{Places}
use Rattle.cc_core.specs.Stores.{is_function}
use Rattle.cc_core.specs.Terms.{Note, Term}
use Rattle.cc_grammar.specs.Syntax.{ImportSyntax, DefSyntax, ModuleSyntax}
use Rattle.cc_mnf.specs.ElaboratedTypes.{optional_note, optional_type}
use Rattle.cc_mnf.specs.Elaboration.{elaborated}
use Rattle.cc_mnf.specs.Operands.{PlacedTerm, start}
use Rattle.cc_mnf.specs.Scopes.{Name, outermost}
use Rattle.cc_mnf.specs.Steps.{ElaborationOutcome, Refused, Found, Step, ◌>>=◌, ◌>>◌, gives, refuses, with_own_holes}

-- An elaborated definition: its name with its place, the type written for it, whether its name is visible in its own
-- right side, and the right side with its places.
pub record CoreDefinition : Type 0 where
  pub name : Name
  pub name_at : Place
  pub note : Note
  pub recursive : Bool
  pub right : Term
  pub places : Places

-- an elaborated module: its imports as they are, and its definitions
pub record CoreModule : Type 0 where
  pub imports : List ImportSyntax
  pub definitions : List CoreDefinition

-- a module is elaborated, or refused with a code and a place
pub data Elaboration : Type 0 where
  IsElaborated : (elaboration : CoreModule) → Elaboration
  IsRefused : (code : Code) (at : Place) → Elaboration

-- the names with one more, which is none of them
abbrev pub with_name : List Name → Name → Place → Step (List Name)
with_name names name at =
    if list_any (bytes_eq name) names
    then refuses E09 at
    else gives (names ++ name ∷ [])

-- the names with those of the imports
abbrev pub with_imports : List Name → List ImportSyntax → Step (List Name)
with_imports names [] = gives names
with_imports names (first ∷ rest) = do
  more ← with_name names first.name first.name_at
  with_imports more rest

-- whether a term may be a right side: a value, and a function where the definition is recursive
abbrev pub is_right_side : Bool → Term → Bool
is_right_side recursive term = if recursive then is_function term else is_value term

-- the right side that starts at the place, if it may be one
abbrev pub or_no_value : Bool → Place → PlacedTerm → Step PlacedTerm
or_no_value recursive at right = if is_right_side recursive right.term then gives right else refuses E12 at

-- What is written for a definition, where these names are visible: the set of a recursive one may not be omitted.
abbrev pub definition_note : List Name → DefSyntax → Step Note
definition_note names definition =
    if definition.own
    then optional_type (outermost names) definition.written
    else optional_note (outermost names) definition.written

-- a definition after these names, where these are they and its own
abbrev pub elaborated_definition : List Name → List Name → DefSyntax → Step CoreDefinition
elaborated_definition names with_own definition = do
  note ← definition_note names definition
  term ← elaborated (outermost (if definition.own then with_own else names)) (start definition.right) definition.right
  right ← or_no_value definition.own (start definition.right) term
  gives (record {
    name = definition.name;
    name_at = definition.name_at;
    note = note;
    recursive = definition.own;
    right = right.term;
    places = right.places;
  })

-- definitions after these names, each with holes of its own
abbrev pub elaborated_definitions : List Name → List DefSyntax → Step (List CoreDefinition)
elaborated_definitions names [] = gives []
elaborated_definitions names (first ∷ rest) = do
  more ← with_name names first.name first.name_at
  one ← with_own_holes (elaborated_definition names more first)
  others ← elaborated_definitions more rest
  gives (one ∷ others)

-- a module after the names of the devices
abbrev pub elaborated_module : List Name → ModuleSyntax → Step CoreModule
elaborated_module devices text = do
  names ← with_imports devices text.imports
  definitions ← elaborated_definitions names text.defs
  gives (record { imports = text.imports; definitions = definitions })

-- what an outcome says of a module
abbrev pub elaboration_of : ElaborationOutcome CoreModule → Elaboration
elaboration_of (Refused code at) = IsRefused code at
elaboration_of (Found elaboration holes) = IsElaborated elaboration

-- The elaboration of a module, where devices have these names: the first refusal in the order of the text, or else the
-- elaborated module.
unfoldable pub elaboration : List Name → ModuleSyntax → Elaboration
elaboration devices text = elaboration_of (elaborated_module devices text zero)

-- the names of declared devices, in order
abbrev pub device_names : List DeviceDecl → List Name
device_names devices = map (λ device. device.name) devices

-- the names of imports, in order
abbrev pub import_names : List ImportSyntax → List Name
import_names imports = map (λ one. one.name) imports

-- the names of elaborated definitions, in order
abbrev pub definition_names : List CoreDefinition → List Name
definition_names definitions = map (λ one. one.name) definitions

-- the names of devices, imports and definitions, at the free positions in this order
abbrev pub names_of : List Name → List ImportSyntax → List CoreDefinition → List Name
names_of devices imports definitions = devices ++ import_names imports ++ definition_names definitions
