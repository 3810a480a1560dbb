use Rattle.std.proofs.Common.{◌≤◌, ◌+◌}
use Rattle.cc_validity.specs.DroppedCaptures.{turns, turns_waiting, NoneLarger}
use Rattle.cc_validity.proofs.captures.Captures.TheLaws.{the_size}
use Rattle.cc_validity.proofs.captures.Captures.+drops.Given as goal

abbrev pub invariant-loop-self : goal.invariant-loop-self
invariant-loop-self l =
    record { own : the_size l.self ≤ the_size l.fn.self; others : NoneLarger the_size (the_size l.fn.self) l.waiting }

abbrev pub decreases-loop-self : goal.decreases-loop-self
decreases-loop-self l = turns l.self + turns_waiting l.waiting
