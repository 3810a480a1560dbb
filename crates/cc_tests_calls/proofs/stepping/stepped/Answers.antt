use Rattle.std.proofs.Common.{◌≡◌, arith, refl}
use Rattle.cc_machine.specs.Machines.{held_by}
use Rattle.cc_runs.specs.Alike.{erased_configuration}
use Rattle.cc_machine.specs.Programs.{shapes_of, values_of, start_of}
use Rattle.cc_machine.proofs.Starting.{program_counted}
use Rattle.cc_tests_calls.proofs.Linking.{of_value, loaded_ready}
use Rattle.cc_tests_calls.proofs.stepping.stepped.Goals as goal

pub reserve-requires : goal.reserve-requires
reserve-requires c =
    let program = c.args.program.now in
    let start = start_of program in
    let counted = program_counted (shapes_of program) (values_of program) in
    (loaded_ready (held_by c.in_ok-machine.machine) (held_by c.in_ok-machine.machine) start c.args.devices.now c.args.calls c.saturating_add.result
    (of_value (λ machine. held_by machine ≡ erased_configuration start) c.load.result c.ok-2.result c.in_ok-machine.machine c.load.ensures.start c.ok-2.ensures.value c.in_ok-machine.was)
    refl (c.starts_soundly.ensures.fits c.args.devices.now c.requires) (omega (arith, counted)) c.saturating_add.ensures (c.if-not-has_positions.ensures.0 refl)).0

pub loop-call-init : goal.loop-call-init
loop-call-init c =
    let program = c.args.program.now in
    let start = start_of program in
    let counted = program_counted (shapes_of program) (values_of program) in
    let ready =
    loaded_ready (held_by c.in_ok-machine.machine) (held_by c.reserve.new.self) start c.args.devices.now c.args.calls c.saturating_add.result
    (of_value (λ machine. held_by machine ≡ erased_configuration start) c.load.result c.ok-2.result c.in_ok-machine.machine c.load.ensures.start c.ok-2.ensures.value c.in_ok-machine.was)
    c.reserve.ensures.held (c.starts_soundly.ensures.fits c.args.devices.now c.requires) (omega (arith, counted)) c.saturating_add.ensures (c.if-not-has_positions.ensures.0 refl) in
    record { positions = omega (arith, ready.1); fits = ready.2 }
