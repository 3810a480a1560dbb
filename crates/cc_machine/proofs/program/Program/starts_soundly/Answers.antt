use Rattle.std.proofs.Math.Logic.{∥∥₁_map}
use Rattle.cc_machine.proofs.Starting.{typed_start_sound, program_fits}
use Rattle.cc_machine.proofs.program.Program.starts_soundly.Goals as goal

pub returns : goal.returns
returns c =
    let program = c.args.self.now in
    record {
      sound = ∥∥₁_map program.typed (typed_start_sound program.devices.items program.cells.items program.term.value);
      fits = λ devices shapes. program_fits program.devices.items program.cells.items devices shapes;
    }
