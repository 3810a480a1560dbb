use Rattle.std.proofs.Common.{Bor, ◌<◌, ◌+◌, length}
use Rattle.cc_machine.specs.declared.program.Program.{Program}
use Rattle.cc_machine.specs.Programs.{start_of}
use Rattle.cc_answers.proofs.AllOf.{all_more, all_whole}
use Rattle.cc_answers.proofs.running.have_positions.Goals as goal

pub loop-program-preserved : goal.loop-program-preserved
loop-program-preserved c =
    all_more (λ (program : Bor Program). length (start_of program.now).store + c.args.fuel < 4294967296) c.args.programs.now c.loop-program.program-index
    c.program-item.result c.loop-program-test.true c.program-item.is c.loop-program.invariant (c.has_positions.ensures.0 c.if-not-has_positions.false)

pub returns : goal.returns
returns c = λ yes.
    all_whole (λ (program : Bor Program). length (start_of program.now).store + c.args.fuel < 4294967296) c.args.programs.now c.loop-program.program-index
    c.loop-program-test.false c.loop-program.invariant
