use Rattle.std.proofs.Common.{map, ap, ◌∙◌, arith}
use Rattle.std.proofs.lemmas.List.{take_all}
use Rattle.cc_device.specs.Declarations.{declared_devices}
use Rattle.cc_device.specs.Devices.{base_of_device}
use Rattle.cc_device.proofs.Declared.{declared_shapes}
use Rattle.cc_device.proofs.table.Devices.new.Goals as goal

pub returns-clause-shapes : goal.returns-clause-shapes
returns-clause-shapes c =
    ap (map base_of_device) (c.loop-decl.invariant ∙ ap declared_devices (take_all c.loop-decl.decl-index c.args.decls.now (omega arith)))
    ∙ declared_shapes c.args.decls.now
