use Rattle.std.proofs.Common.{◌≡◌, None, refl, sym, subst, option_map}
use Rattle.cc_device.specs.DeviceViews.{event_of}
use Rattle.cc_machine.specs.Machines.{held_by}
use Rattle.cc_runs.specs.Machine.{step}
use Rattle.cc_machine.specs.Asking.{question_in}
use Rattle.cc_machine.specs.Parts.{configuration_of}
use Rattle.cc_machine.proofs.FreeOperands.{operands_free, contents_free}
use Rattle.cc_machine.proofs.GivenAnswers.{advances_alike, advanced_next, advanced_stands}
use Rattle.cc_machine.proofs.Keeping.{on_err, room_for_one, room_after}
use Rattle.cc_machine.proofs.machine.Machine.advance.Goals as goal

pub returns-in_err-make_room-clause-kept : goal.returns-in_err-make_room-clause-kept
returns-in_err-make_room-clause-kept c = on_err c.from_residual.result _ c.make_room.ensures.held

pub advance-event-requires-clause-room : goal.advance-event-requires-clause-room
advance-event-requires-clause-room c = room_for_one c.make_room.new.self.spare c.make_room.new.self.room c.in_ok-make_room.ensures.some

pub advance-event-requires-clause-operands : goal.advance-event-requires-clause-operands
advance-event-requires-clause-operands c = operands_free (held_by c.make_room.new.self) c.make_room.new.self.sound

pub advance-event-requires-clause-contents : goal.advance-event-requires-clause-contents
advance-event-requires-clause-contents c = contents_free (held_by c.make_room.new.self) c.make_room.new.self.sound

pub advance-event-requires-clause-unasked : goal.advance-event-requires-clause-unasked
advance-event-requires-clause-unasked c = subst (λ h. question_in (step h) ≡ None) (sym c.make_room.ensures.held) c.requires.unasked

pub invariant_of-self : goal.invariant_of-self
invariant_of-self c = record {
  linked = c.advance-event.ensures.linked;
  room = room_after c.make_room.new.self.spare _ c.make_room.new.self.room c.advance-event.ensures.uses c.in_ok-make_room.ensures.some refl;
  sound = advanced_stands c.args.self.now.parts (option_map event_of c.advance-event.result) c.make_room.ensures.held c.advance-event.ensures c.args.self.now.sound c.requires.running;
}

pub returns-clause-next : goal.returns-clause-next
returns-clause-next c =
    advanced_next c.args.self.now.parts (option_map event_of c.advance-event.result) c.make_room.ensures.held c.advance-event.ensures c.args.self.now.sound c.requires.running

pub returns-clause-steps : goal.returns-clause-steps
returns-clause-steps c =
    advances_alike (held_by c.args.self.now) (option_map event_of c.advance-event.result) (configuration_of c.advance-event.new.self)
    (advanced_next c.args.self.now.parts (option_map event_of c.advance-event.result) c.make_room.ensures.held c.advance-event.ensures c.args.self.now.sound c.requires.running)
