use Rattle.std.proofs.Common.{ℕ, ◌<◌}
use Rattle.std.specs.List.{Contains}
use Rattle.cc_solve.proofs.spreading.numbers.Given as goal

abbrev pub invariant-loop-number : goal.invariant-loop-number
invariant-loop-number l =
    record {
      all : (k : ℕ) → k < l.number → Contains l.list.items k;
      only : (k : ℕ) → Contains l.list.items k → k < l.number;
    }
