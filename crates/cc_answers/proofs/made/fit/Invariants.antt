use Rattle.std.proofs.Common.{◌≡◌, ◌+◌, ◌-◌, ◌^◌, min, take}
use Rattle.std.specs.List.{sum_by}
use Rattle.cc_answers.proofs.made.fit.Given as goal

abbrev pub invariant-loop-it : goal.invariant-loop-it
invariant-loop-it g l = l.sum ≡ min (l.size + sum_by (λ it. it.size) (take l.it-index l.made)) (2 ^ 64 - 1)
