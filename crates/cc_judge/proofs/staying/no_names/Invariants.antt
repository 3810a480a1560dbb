use Rattle.std.proofs.Common.{◌≡◌, [], replicate}
use Rattle.cc_judge.proofs.staying.no_names.Given as goal

abbrev pub invariant-loop : goal.invariant-loop
invariant-loop l = l.known.items ≡ replicate l.counter []
