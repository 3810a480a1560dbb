use Rattle.std.proofs.Common.{◌≡◌, map, take}
use Rattle.cc_certificate_judging.proofs.answer.names_of.Given as goal

abbrev pub invariant-loop-bind : goal.invariant-loop-bind
invariant-loop-bind l = l.names.items ≡ map (λ bind. bind.0) (take l.bind-index l.binds)
