-- Answers, which a run can end with, and what is shown of them.
use Rattle.std.specs.Prelude.{Bool, true, Option, Some, None}
use Rattle.cc_core.specs.Terms.{Term, VariableTerm, LiteralTerm, FunctionTerm, TypeFunctionTerm, BoxTerm}
use Rattle.cc_core.specs.Captured.{is_value}
use Rattle.cc_core.specs.Stores.{Cell, ValueCell, DeviceCell, LabelCell, Store, cell_at}
use Rattle.cc_device.specs.Endings.{Shown, ShownLiteral, ShownFunction, ShownTypeFunction, ShownBox, ShownDevice}
use Rattle.cc_device.specs.Endings.{ShownLabel}
use Rattle.cc_runs.specs.Machine.{Configuration}

-- variables and values are answers
abbrev pub is_answer : Term → Bool
is_answer (VariableTerm variable) = true
is_answer term = is_value term

-- what is shown of a value
abbrev pub shown_value : Term → Option Shown
shown_value (LiteralTerm literal) = Some (ShownLiteral literal)
shown_value (FunctionTerm takes c body) = Some ShownFunction
shown_value (TypeFunctionTerm bound body) = Some ShownTypeFunction
shown_value (BoxTerm content) = Some ShownBox
shown_value _ = None

-- what is shown of a cell
abbrev pub shown_cell : Option Cell → Option Shown
shown_cell (Some (ValueCell value)) = shown_value value
shown_cell (Some (DeviceCell device base)) = Some (ShownDevice device)
shown_cell (Some (LabelCell label)) = Some (ShownLabel label)
shown_cell None = None

-- what is shown of an answer: of a variable, its cell
abbrev pub shown_answer : Store → Term → Option Shown
shown_answer store (VariableTerm variable) = shown_cell (cell_at store variable)
shown_answer store value = shown_value value

-- what is shown of a final configuration
abbrev pub shown : Configuration → Option Shown
shown configuration = shown_answer configuration.store configuration.term
