-- What definitions of present modules link to: the elements of the outermost set of a definition's type, as its right side
-- names them.
use Rattle.std.specs.Prelude.{ℕ, zero, suc, List, [], ◌∷◌, length, Option, Some, None, Result, Ok, Err, if◌then◌else◌}
use Rattle.std.specs.List.{filter_map}
use Rattle.cc_base.specs.declared.code.Code.{Code}
use Rattle.cc_base.specs.declared.device.DeviceDecl.{DeviceDecl}
use Rattle.cc_capture.specs.declared.var.Var.{Var}
use Rattle.cc_capture.specs.declared.var.Var.TheVariants.{Bound, Free}
use Rattle.cc_capture.specs.declared.var.Elem.{Elem}
use Rattle.cc_capture.specs.declared.var.Elem.TheVariants.{Var as Variable, Cap, Hole}
use Rattle.cc_core.specs.Contexts.{lookup}
use Rattle.cc_grammar.specs.Syntax.{ImportSyntax}
use Rattle.cc_verdicts.specs.ModuleVerdicts.{CheckedDefinition, ModuleVerdict}
use Rattle.cc_verdicts.specs.PresentTexts.{Texts}
use Rattle.cc_verdicts.specs.StandingDefinitions.{Standing, standing_in}

-- What a definition links to: a definition, by the names of its module and its own; a device, by its number; or the
-- universal capability.
pub data Target : Type 0 where
  DefinitionOf : (module_name name : List ℕ) → Target
  DeviceAt : (number : ℕ) → Target
  Universal : Target

-- the element of a set that a target is, which a definition is not
abbrev pub element_of : Target → Option Elem
element_of (DefinitionOf module_name name) = None
element_of (DeviceAt number) = Some (Variable (Free number))
element_of Universal = Some Cap

-- The devices, by number. Lists of what positions stand for have the newest first, as contexts do.
abbrev pub device_targets : ℕ → List Target
device_targets zero = []
device_targets (suc number) = DeviceAt number ∷ device_targets number

-- with what imports name, in order
abbrev pub with_imports : List Target → List ImportSyntax → List Target
with_imports targets [] = targets
with_imports targets (one ∷ rest) = with_imports (DefinitionOf one.source one.name ∷ targets) rest

-- with definitions of the module, in order
abbrev pub with_names : List ℕ → List Target → List CheckedDefinition → List Target
with_names module_name targets [] = targets
with_names module_name targets (one ∷ rest) = with_names module_name (DefinitionOf module_name one.name ∷ targets) rest

-- What the positions before a definition stand for: the devices, the imports of its module, and the definitions before
-- it.
abbrev pub earlier_targets : List DeviceDecl → List ℕ → Standing → List Target
earlier_targets devices module_name it =
    with_names module_name (with_imports (device_targets (length devices)) it.imports) it.before

-- what those of its right side stand for: itself too, where it is recursive
abbrev pub standing_targets : List DeviceDecl → List ℕ → Standing → List Target
standing_targets devices module_name it =
    if it.definition.recursive
    then DefinitionOf module_name it.definition.name ∷ earlier_targets devices module_name it
    else earlier_targets devices module_name it

-- what a variable stands for
abbrev pub variable_target : List Target → Var → Option Target
variable_target positions (Free position) = lookup positions position
variable_target positions (Bound index) = None

-- what an element of a set stands for
abbrev pub target_of : List Target → Elem → Option Target
target_of positions (Variable variable) = variable_target positions variable
target_of positions Cap = Some Universal
target_of positions (Hole number) = None

-- the entry of a definition where it stands: what the elements of the outermost set of its type stand for, in order
abbrev pub standing_entry : List DeviceDecl → List ℕ → Standing → List Target
standing_entry devices module_name it =
    filter_map (target_of (standing_targets devices module_name it)) it.definition.accepted.type.set.list

-- the entry of a definition, if there is one
abbrev pub entry_or_none : List DeviceDecl → List ℕ → Result Standing Code → List Target
entry_or_none devices module_name (Ok it) = standing_entry devices module_name it
entry_or_none devices module_name (Err code) = []

-- The entry of a target, where modules have these verdicts. Devices and the universal capability link to nothing.
abbrev pub entry_in : List DeviceDecl → Texts → (List ℕ → ModuleVerdict) → Target → List Target
entry_in devices texts verdicts (DefinitionOf module_name name) =
    entry_or_none devices module_name (standing_in texts verdicts module_name name)
entry_in devices texts verdicts (DeviceAt number) = []
entry_in devices texts verdicts Universal = []
