use Rattle.std.proofs.Common.{Some, arith}
use Rattle.std.proofs.lemmas.Int.{to_z-of_z}
use mir.Val.{of_z, to_z}
use mir.Syntax.{w64}
use Rattle.cc_base.specs.declared.literal.Op.TheVariants.{Print}
use Rattle.cc_base.specs.Literals.{NumberLiteral}
use Rattle.cc_device.specs.DeviceViews.{state_of}
use Rattle.cc_device.proofs.Tables.{replied_number, kept_if, no_device}
use Rattle.cc_device.proofs.table.Devices.print.Goals as goal

pub returns-then-place-len-clause-answers : goal.returns-then-place-len-clause-answers
returns-then-place-len-clause-answers c =
    replied_number state_of c.self.inside.states.items c.args.self.now c.args.device Print c.args.number (to_z w64 (of_z w64 c.args.number)) c.index_mut.result.now c.take_line.new.state c.take_line.result
    (to_z-of_z w64 c.args.number c.ranges.number) c.self.view_is (omega arith) c.index_mut.ensures.value c.take_line.ensures.answers

pub returns-then-place-len-clause-kept : goal.returns-then-place-len-clause-kept
returns-then-place-len-clause-kept c =
    kept_if state_of c.self.inside.states.items c.args.self.now c.args.device c.index_mut.result.now c.take_line.new.state c.take_line.result
    c.self.view_is (omega arith) c.index_mut.ensures.value c.take_line.ensures.kept

pub returns-else-place-len-clause-answers : goal.returns-else-place-len-clause-answers
returns-else-place-len-clause-answers c = no_device state_of c.self.inside.states.items c.args.self.now c.args.device Print (Some (NumberLiteral c.args.number)) c.self.view_is (omega arith)
