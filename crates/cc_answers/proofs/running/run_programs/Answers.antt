use Rattle.std.proofs.Common.{Bor, ◌<◌, ◌+◌, length}
use Rattle.cc_machine.specs.declared.program.Program.{Program}
use Rattle.cc_machine.specs.Programs.{start_of}
use Rattle.cc_runs.specs.SoundRuns.{HasShapesOfCells}
use Rattle.cc_answers.proofs.AllOf.{all_mapped}
use Rattle.cc_answers.proofs.running.run_programs.Goals as goal

pub fit_all-requires : goal.fit_all-requires
fit_all-requires c = c.requires c.in_ok-devices.devices c.in_ok-devices.ensures.shapes

pub run_tasks-requires-clause-positions : goal.run_tasks-requires-clause-positions
run_tasks-requires-clause-positions c =
    all_mapped (λ (program : Program). length (start_of program).store + c.args.fuel < 4294967296) c.args.programs.now (λ (it : Bor Program). it.now)
    (c.have_positions.ensures c.if-not-have_positions.false)

pub run_tasks-requires-clause-fits : goal.run_tasks-requires-clause-fits
run_tasks-requires-clause-fits c =
    all_mapped (λ (program : Program). HasShapesOfCells (start_of program).store c.in_ok-devices.devices) c.args.programs.now (λ (it : Bor Program). it.now)
    c.fit_all.ensures
