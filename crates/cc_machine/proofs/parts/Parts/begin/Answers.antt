use Rattle.std.proofs.Common.{refl}
use Rattle.cc_machine.proofs.Repeating.{bounded_goes}
use Rattle.cc_machine.proofs.parts.Parts.begin.Goals as goal

pub returns : goal.returns
returns c = bounded_goes c.requires.linked c.requires.within c.add-position.ensures c.wait.ensures refl refl refl refl refl c.enter.ensures
