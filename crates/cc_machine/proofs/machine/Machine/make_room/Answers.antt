use Rattle.cc_machine.proofs.Keeping.{same_linked, same_sound}
use Rattle.cc_machine.proofs.machine.Machine.make_room.Goals as goal

pub invariant_of-self : goal.invariant_of-self
invariant_of-self c = record {
  linked = same_linked c.reserve.ensures.same c.args.self.now.linked;
  room = c.reserve.ensures.same.room c.args.self.now.spare c.args.self.now.room;
  sound = same_sound c.reserve.ensures.same c.args.self.now.sound;
}

pub invariant_of-self-then-self-eq0 : goal.invariant_of-self-then-self-eq0
invariant_of-self-then-self-eq0 c = record {
  linked = same_linked c.reserve.ensures.same c.args.self.now.linked;
  room = c.in_ok-reserve.ensures.room;
  sound = same_sound c.reserve.ensures.same c.args.self.now.sound;
}
