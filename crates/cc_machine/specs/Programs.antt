-- The parts of a program, and its start.
use Rattle.std.specs.Prelude.{List, map}
use Rattle.cc_base.specs.declared.literal.Base.{Base}
use Rattle.cc_core.specs.declared.terms.Node.{Node}
use Rattle.cc_core.specs.Stores.{Store}
use Rattle.cc_runs.specs.Alike.{erased_cell}
use Rattle.cc_runs.specs.Machine.{Configuration}
use Rattle.cc_machine.specs.declared.program.Program.{Program}
use Rattle.cc_machine.specs.declared.values.TypedValue.{TypedValue}
use Rattle.cc_machine.specs.Starts.{program_store, program_start}

-- the shapes of the devices, by their numbers
abbrev pub shapes_of : Program → List Base
shapes_of program = program.devices.items

-- the values with their types, in the order of their positions
abbrev pub values_of : Program → List TypedValue
values_of program = program.cells.items

-- the term that is run
abbrev pub term_in : Program → Node
term_in program = program.term.value

-- the start of the program
abbrev pub start_of : Program → Configuration
start_of program = program_start (shapes_of program) (values_of program) (term_in program)

-- the cells of its store, without what is written for types
abbrev pub program_cells : Program → Store
program_cells program = map erased_cell (program_store (shapes_of program) (values_of program))
