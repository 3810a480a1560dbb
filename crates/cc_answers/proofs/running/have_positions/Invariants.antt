use Rattle.std.proofs.Common.{◌<◌, ◌+◌, take, length}
use Rattle.std.specs.List.{AllByRecursion}
use Rattle.cc_machine.specs.Programs.{start_of}
use Rattle.cc_answers.proofs.running.have_positions.Given as goal

abbrev pub invariant-loop-program : goal.invariant-loop-program
invariant-loop-program l = AllByRecursion (λ program. length (start_of program.now).store + l.fuel < 4294967296) (take l.program-index l.programs)
