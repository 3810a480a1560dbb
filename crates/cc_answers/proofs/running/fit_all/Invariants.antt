use Rattle.std.proofs.Common.{take}
use Rattle.std.specs.List.{AllByRecursion}
use Rattle.cc_runs.specs.SoundRuns.{HasShapesOfCells}
use Rattle.cc_machine.specs.Programs.{start_of}
use Rattle.cc_answers.proofs.running.fit_all.Given as goal

abbrev pub invariant-loop-program : goal.invariant-loop-program
invariant-loop-program l = AllByRecursion (λ program. HasShapesOfCells (start_of program.now).store l.devices) (take l.program-index l.programs)
