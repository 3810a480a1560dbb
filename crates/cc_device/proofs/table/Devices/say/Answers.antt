use Rattle.std.proofs.Common.{Some, arith}
use Rattle.std.specs.Rc.{rc_str_bytes}
use Rattle.std.specs.Str.{chars}
use Rattle.cc_base.specs.declared.literal.Op.TheVariants.{Say}
use Rattle.cc_base.specs.Literals.{TextLiteral}
use Rattle.cc_device.specs.DeviceViews.{state_of}
use Rattle.cc_device.proofs.Tables.{replied_if, kept_if, no_device}
use Rattle.cc_device.proofs.table.Devices.say.Goals as goal

pub returns-then-place-len-clause-answers : goal.returns-then-place-len-clause-answers
returns-then-place-len-clause-answers c =
    replied_if state_of c.self.inside.states.items c.args.self.now c.args.device Say (Some (TextLiteral (chars (rc_str_bytes c.args.text)))) c.index_mut.result.now c.take_line.new.state c.take_line.result
    c.self.view_is (omega arith) c.index_mut.ensures.value c.take_line.ensures.answers

pub returns-then-place-len-clause-kept : goal.returns-then-place-len-clause-kept
returns-then-place-len-clause-kept c =
    kept_if state_of c.self.inside.states.items c.args.self.now c.args.device c.index_mut.result.now c.take_line.new.state c.take_line.result
    c.self.view_is (omega arith) c.index_mut.ensures.value c.take_line.ensures.kept

pub returns-else-place-len-clause-answers : goal.returns-else-place-len-clause-answers
returns-else-place-len-clause-answers c = no_device state_of c.self.inside.states.items c.args.self.now c.args.device Say (Some (TextLiteral (chars (rc_str_bytes c.args.text)))) c.self.view_is (omega arith)
