use Rattle.std.proofs.Common.{◌≡◌, take}
use Rattle.cc_answers.specs.KeptEntries.{texts_size}
use Rattle.cc_answers.proofs.kept.texts_size.Given as goal

abbrev pub invariant-loop-module : goal.invariant-loop-module
invariant-loop-module l = l.size ≡ texts_size l.session.present (take l.module-index l.modules)
