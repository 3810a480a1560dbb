-- The cell that a variable stands for.
use Rattle.std.specs.Prelude.{◌≡◌, ◌≤◌, length, Option}
use Rattle.std.specs.Option.{option_map}
use Rattle.cc_capture.specs.declared.var.Var.{Var}
use Rattle.cc_core.specs.Stores.{cell_at}
use Rattle.cc_machine.specs.declared.parts.Cell.{Cell}
use Rattle.cc_machine.specs.declared.parts.Parts.{Parts}
use Rattle.cc_machine.specs.Parts.{cell_in, cell_environment, configuration_of, IsLinked}

-- What was found is the cell of the variable, if it has one. Its environment is one of those that there are.
pub record IsCellOf (parts : Parts) (variable : Var) (found : Option Cell) : Type 0 where
  pub cell : cell_at (configuration_of parts).store variable ≡ option_map (cell_in parts.links.items) found
  pub within : IsLinked parts → cell_environment found ≤ length parts.links.items
