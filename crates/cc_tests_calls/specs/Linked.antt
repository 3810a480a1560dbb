-- A program that is linked from the definitions of one accepted module.
use Rattle.std.specs.Prelude.{◌≡◌, Bool, true, false, List, [], map}
use Rattle.cc_base.specs.declared.literal.Base.TheVariants as bases
use Rattle.cc_base.specs.declared.device.DeviceDecl.{DeviceDecl}
use Rattle.cc_core.specs.Shapes.{Shape, BaseShape, FunctionShape}
use Rattle.cc_core.specs.Contexts.{entry_of}
use Rattle.cc_core.specs.Stores.{ValueCell}
use Rattle.cc_core.specs.TermViews.{term_of, type_of}
use Rattle.cc_verdicts.specs.ModuleLaws.{AreSound}
use Rattle.cc_module.specs.declared.judgement.CheckedDef.{CheckedDef}
use Rattle.cc_module.specs.Judgements.{checked_definition_of}
use Rattle.cc_machine.specs.declared.values.TypedValue.{TypedValue}
use Rattle.cc_machine.specs.Starts.{value_cell, value_entry}

-- whether the shape is that of unit
abbrev pub is_unit : Shape → Bool
is_unit (BaseShape bases.Unit) = true
is_unit _ = false

-- whether the shape is that of functions that take unit
abbrev pub takes_unit : Shape → Bool
takes_unit (FunctionShape takes c gives e) = is_unit takes
takes_unit _ = false

-- the value is that of the definition, and has the type of its signature
pub record IsCellOf (definition : CheckedDef) (value : TypedValue) : Type 0 where
  pub cell : value_cell value ≡ ValueCell (term_of definition.checked.filled.value)
  pub entry : value_entry value ≡ entry_of (type_of definition.checked.sig)

-- the same of values and definitions in order
pub record AreCellsOf (definitions : List CheckedDef) (values : List TypedValue) : Type 0 where
  pub cells : map value_cell values ≡ map (λ one. ValueCell (term_of one.checked.filled.value)) definitions
  pub entries : map value_entry values ≡ map (λ one. entry_of (type_of one.checked.sig)) definitions

-- the definitions are those of an accepted module without imports
abbrev pub AreTypedOver : List DeviceDecl → List CheckedDef → Type 0
AreTypedOver devices definitions = AreSound devices [] (map checked_definition_of definitions)
