use Rattle.std.proofs.Common.{length, ap, arith}
use Rattle.cc_machine.specs.Programs.{shapes_of, values_of}
use Rattle.cc_machine.proofs.LoadedCells.{cells_counted}
use Rattle.cc_machine.proofs.Starting.{program_counted}
use Rattle.cc_machine.proofs.program.Program.count.Goals as goal

pub overflow_cast-result : goal.overflow_cast-result
overflow_cast-result c =
    let program = c.args.self.now in
    omega (arith, program.positions, program_counted (shapes_of program) (values_of program), ap length c.devices.ensures, ap length c.cells.ensures)

pub returns : goal.returns
returns c = omega (arith, cells_counted c.args.self.now, ap length c.devices.ensures, ap length c.cells.ensures)
