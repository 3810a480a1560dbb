use mir.Syntax.{w64}
use mir.Val.{to_z}
use Rattle.std.proofs.lemmas.Int.{to_z_pos}
use Rattle.cc_machine.proofs.Repeating.{called}
use Rattle.cc_machine.proofs.parts.Parts.call.Goals as goal

pub returns : goal.returns
returns c =
    called (to_z w64 c.args.number) c.args.function c.args.begun c.args.wanted c.args.number c.requires.linked c.requires.begun c.requires.wanted (to_z_pos w64 c.args.number c.requires.number)
    c.add-position.ensures c.wait.ensures
