use Rattle.std.proofs.Common.{sym, ap, ◌∙◌, option_map}
use Rattle.cc_device.specs.DeviceViews.{shown_of}
use Rattle.cc_machine.specs.Machines.{held_by}
use Rattle.cc_machine.proofs.FinalStates.{shows_something}
use Rattle.cc_machine.proofs.machine.Machine.value.Goals as goal

pub unreachable-requires : goal.unreachable-requires
unreachable-requires c =
    shows_something (held_by c.args.self.now) c.args.self.now.sound c.requires
    (sym c.shown.ensures ∙ ap (option_map shown_of) c.in-None.is)
