use Rattle.std.proofs.Common.{◌≡◌, Some, sym, ap, ◌∙◌, subst, option_map}
use Rattle.cc_base.specs.Literals.{literal_of}
use Rattle.cc_device.specs.Calls.{RepliesAs}
use Rattle.cc_device.specs.Devices.{operate}
use Rattle.cc_device.specs.Events.{Operated, literal_shown}
use Rattle.cc_device.specs.DeviceViews.{event_of}
use Rattle.cc_machine.specs.Asking.{question_of}
use Rattle.cc_machine.proofs.Operating.{answered_goes}
use Rattle.cc_machine.proofs.parts.Parts.operate.Goals as goal

pub returns-in-Some-clause-moves : goal.returns-in-Some-clause-moves
returns-in-Some-clause-moves c =
    let q = question_of c.args.wanted in
    let answer = literal_of c.in-Some.answer in
    let replies =
    subst (λ o. RepliesAs (operate c.args.devices.now q.device q.operation (option_map literal_of c.in_ok-taken.taken)) (option_map literal_of o) c.args.devices.now c.answer.new.devices)
    c.in-Some.is c.in_ok-answer.ensures.answers in
    answered_goes q c.args.devices.now c.answer.new.devices c.requires.wanted answer (Some (event_of c.event.result)) c.resume.ensures
    (subst (λ a. operate c.args.devices.now q.device q.operation a ≡ Some (record { literal = answer; devices = c.answer.new.devices })) c.in_ok-taken.ensures.argument replies)
    (ap (λ e. Some e) (sym (c.event.ensures ∙ ap (λ a. Operated q.device q.operation (literal_shown a answer)) c.in_ok-shown.ensures.argument)))
