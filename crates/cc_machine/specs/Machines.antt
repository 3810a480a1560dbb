-- What a machine holds.
use Rattle.std.specs.Prelude.{ℕ, length}
use Rattle.cc_machine.specs.declared.machine.Machine.{Machine}
use Rattle.cc_runs.specs.Machine.{Configuration}
use Rattle.cc_machine.specs.Parts.{configuration_of}

-- the configuration without types and shapes that are written
abbrev pub held_by : Machine → Configuration
held_by machine = configuration_of machine.parts

-- how many cells it holds
abbrev pub count_cells : Machine → ℕ
count_cells machine = length (held_by machine).store

-- for how many steps there is memory
abbrev pub spare_of : Machine → ℕ
spare_of machine = machine.spare
