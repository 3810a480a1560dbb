use Rattle.std.proofs.Common.{◌≡◌, map, take}
use Rattle.cc_answers.proofs.running.entries_of.Given as goal

abbrev pub invariant-loop-it : goal.invariant-loop-it
invariant-loop-it l = map (λ one. one.now) l.entries.items ≡ map (λ it. it.value.entry) (take l.it-index l.linked)
