-- The cells of a program, from the oldest on.
use Rattle.std.specs.Prelude.{ℕ, suc, List, [], ◌∷◌, ◌++◌, map}
use Rattle.cc_base.specs.declared.literal.Base.{Base}
use Rattle.cc_base.specs.Literals.{UnitLiteral}
use Rattle.cc_core.specs.Stores.{Cell, DeviceCell, ValueCell}
use Rattle.cc_core.specs.Terms.{LiteralTerm}
use Rattle.cc_runs.specs.Alike.{erased_cell}
use Rattle.cc_machine.specs.declared.values.TypedValue.{TypedValue}
use Rattle.cc_machine.specs.Starts.{value_cell}

-- the cells of devices, from the number on
abbrev pub numbered_from : ℕ → List Base → List Cell
numbered_from number [] = []
numbered_from number (base ∷ bases) = DeviceCell number base ∷ numbered_from (suc number) bases

-- the cells of values, and the one with unit behind them
abbrev pub values_and_unit : List TypedValue → List Cell
values_and_unit values =
    map (λ typed. erased_cell (value_cell typed)) values ++ ValueCell (LiteralTerm UnitLiteral) ∷ []

-- all of them
abbrev pub listed_cells : List Base → List TypedValue → List Cell
listed_cells devices values = numbered_from 0 devices ++ values_and_unit values
