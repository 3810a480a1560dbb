use Rattle.cc_answers.specs.Explaining.{FindsAll}
use Rattle.cc_answers.proofs.explaining.find_chains.Given as goal

abbrev pub invariant-loop-elem : goal.invariant-loop-elem
invariant-loop-elem l = FindsAll l.links l.from l.yielded l.all.items
