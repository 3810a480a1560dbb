use Rattle.std.proofs.Common.{take}
use Rattle.std.specs.Map.{keys_of}
use Rattle.cc_judge.specs.Dependencies.{PushesNamed}
use Rattle.cc_judge.proofs.dependencies.push_named.Given as goal

abbrev pub invariant-loop-name : goal.invariant-loop-name
invariant-loop-name l = PushesNamed (keys_of l.texts) (take l.name-index l.names) l.initial.places.items l.places.items
