use Rattle.std.proofs.Common.{sym, ◌∙◌}
use Rattle.cc_machine.specs.Machines.{held_by}
use Rattle.cc_machine.specs.Programs.{start_of}
use Rattle.cc_answers.proofs.RunFacts.{fits_held}
use Rattle.cc_answers.proofs.running.run_program.Goals as goal

pub run-requires-clause-fits : goal.run-requires-clause-fits
run-requires-clause-fits c =
    fits_held (held_by c.in_ok-machine.machine) (start_of c.args.program.now) c.in_ok-devices.devices c.in_ok-machine.ensures.start
    (c.starts_soundly.ensures.fits c.in_ok-devices.devices (c.in_ok-devices.ensures.shapes ∙ sym c.requires))
