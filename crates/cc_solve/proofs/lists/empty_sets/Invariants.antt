use Rattle.std.proofs.Common.{◌≡◌, ℕ, length}
use Rattle.cc_capture.specs.Sets.{empty}
use Rattle.cc_solve.specs.Solutions.{filling_of}
use Rattle.cc_solve.proofs.lists.empty_sets.Given as goal

abbrev pub invariant-loop : goal.invariant-loop
invariant-loop l =
    record { count : length l.sets.items ≡ l.counter; blank : (at : ℕ) → filling_of l.sets.items at ≡ empty }
