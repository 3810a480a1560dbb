use Rattle.std.proofs.Common.{Bor}
use Rattle.cc_runs.specs.SafeRuns.{HaveShapes}
use Rattle.cc_runs.specs.SoundRuns.{HasShapesOfCells}
use Rattle.cc_machine.specs.declared.program.Program.{Program}
use Rattle.cc_machine.specs.Programs.{shapes_of, start_of}
use Rattle.cc_answers.proofs.AllOf.{all_more, all_whole, all_get}
use Rattle.cc_answers.proofs.running.fit_all.Goals as goal

pub loop-program-preserved : goal.loop-program-preserved
loop-program-preserved c =
    all_more (λ (program : Bor Program). HasShapesOfCells (start_of program.now).store c.args.devices.now) c.args.programs.now c.loop-program.program-index
    c.program-item.result c.loop-program-test.true c.program-item.is c.loop-program.invariant
    (c.starts_soundly.ensures.fits c.args.devices.now
    (all_get (λ (program : Bor Program). HaveShapes c.args.devices.now (shapes_of program.now)) c.args.programs.now c.loop-program.program-index
    c.program-item.result c.loop-program-test.true c.program-item.is c.requires))

pub returns : goal.returns
returns c =
    all_whole (λ (program : Bor Program). HasShapesOfCells (start_of program.now).store c.args.devices.now) c.args.programs.now c.loop-program.program-index
    c.loop-program-test.false c.loop-program.invariant
