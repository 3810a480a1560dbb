use Rattle.std.proofs.Common.{refl, sym, ap, ◌∙◌, subst, option_map}
use Rattle.cc_device.specs.DeviceViews.{event_of}
use Rattle.cc_machine.specs.Machines.{held_by}
use Rattle.cc_machine.specs.Standing.{StandsSoundly, KeepsShapes}
use Rattle.cc_runs.specs.SoundRuns.{HasShapesOfCells}
use Rattle.cc_machine.specs.Parts.{configuration_of, IsLinked, HasRoom}
use Rattle.cc_machine.proofs.FreeOperands.{operands_free, contents_free}
use Rattle.cc_machine.proofs.Keeping.{on_err, room_for_one, room_after, held_moves, held_steps, held_stands, held_fits, held_shapes}
use Rattle.cc_machine.proofs.machine.Machine.step.Goals as goal

pub returns-in_err-make_room-clause-kept : goal.returns-in_err-make_room-clause-kept
returns-in_err-make_room-clause-kept c = on_err c.from_residual.result _ (c.make_room.ensures.held, refl)

pub returns-in_err-make_room-clause-fits : goal.returns-in_err-make_room-clause-fits
returns-in_err-make_room-clause-fits c = subst (λ h. HasShapesOfCells h.store c.args.devices.now) (sym c.make_room.ensures.held) c.requires.fits

pub step-requires-clause-room : goal.step-requires-clause-room
step-requires-clause-room c = room_for_one c.make_room.new.self.spare c.make_room.new.self.room c.in_ok-make_room.ensures.some

pub step-requires-clause-operands : goal.step-requires-clause-operands
step-requires-clause-operands c = operands_free (held_by c.make_room.new.self) c.make_room.new.self.sound

pub step-requires-clause-contents : goal.step-requires-clause-contents
step-requires-clause-contents c = contents_free (held_by c.make_room.new.self) c.make_room.new.self.sound

pub invariant_of-self : goal.invariant_of-self
invariant_of-self c =
    let kept = sym c.in_err-event.ensures.kept in
    record {
      linked = subst IsLinked kept c.make_room.new.self.linked;
      room = subst (λ p. HasRoom p c.make_room.new.self.spare) kept c.make_room.new.self.room;
      sound = subst (λ p. ∥ StandsSoundly (configuration_of p) ∥₁) kept c.make_room.new.self.sound;
    }

pub returns-in_err-event-clause-kept : goal.returns-in_err-event-clause-kept
returns-in_err-event-clause-kept c =
    on_err c.from_residual-in_err-event.result _ (ap configuration_of c.in_err-event.ensures.kept ∙ c.make_room.ensures.held, c.in_err-event.ensures.devices)

pub returns-in_err-event-clause-fits : goal.returns-in_err-event-clause-fits
returns-in_err-event-clause-fits c =
    subst (λ p. HasShapesOfCells (configuration_of p).store c.step.new.devices) (sym c.in_err-event.ensures.kept)
    (subst (HasShapesOfCells (held_by c.make_room.new.self).store) (sym c.in_err-event.ensures.devices)
    (subst (λ h. HasShapesOfCells h.store c.args.devices.now) (sym c.make_room.ensures.held) c.requires.fits))

pub returns-in_err-event-clause-shapes : goal.returns-in_err-event-clause-shapes
returns-in_err-event-clause-shapes c = subst (KeepsShapes c.args.devices.now) (sym c.in_err-event.ensures.devices) (λ number. refl)

pub invariant_of-self-2 : goal.invariant_of-self-2
invariant_of-self-2 c = record {
  linked = c.in_ok-event.ensures.moves.linked;
  room = room_after c.make_room.new.self.spare _ c.make_room.new.self.room c.in_ok-event.ensures.moves.uses c.in_ok-make_room.ensures.some refl;
  sound = held_stands c.args.self.now.parts c.args.devices.now c.step.new.devices (option_map event_of c.in_ok-event.event) c.make_room.ensures.held c.in_ok-event.ensures.moves
      c.args.self.now.sound c.requires.fits c.requires.running;
}

pub returns-clause-moves : goal.returns-clause-moves
returns-clause-moves c =
    held_moves c.args.self.now.parts c.args.devices.now c.step.new.devices (option_map event_of c.in_ok-event.event) c.make_room.ensures.held c.in_ok-event.ensures.moves
    c.args.self.now.sound c.requires.fits c.requires.running

pub returns-clause-steps : goal.returns-clause-steps
returns-clause-steps c =
    held_steps c.args.self.now.parts c.args.devices.now c.step.new.devices (option_map event_of c.in_ok-event.event) c.make_room.ensures.held c.in_ok-event.ensures.moves
    c.args.self.now.sound c.requires.fits c.requires.running

pub returns-clause-fits : goal.returns-clause-fits
returns-clause-fits c =
    held_fits c.args.self.now.parts c.args.devices.now c.step.new.devices (option_map event_of c.in_ok-event.event) c.make_room.ensures.held c.in_ok-event.ensures.moves
    c.args.self.now.sound c.requires.fits c.requires.running

pub returns-clause-shapes : goal.returns-clause-shapes
returns-clause-shapes c =
    held_shapes c.args.self.now.parts c.args.devices.now c.step.new.devices (option_map event_of c.in_ok-event.event) c.make_room.ensures.held c.in_ok-event.ensures.moves
    c.args.self.now.sound c.requires.fits c.requires.running
