use Rattle.std.proofs.Common.{◌+◌, ◌≤◌}
use Rattle.cc_derivation.specs.DroppedNodes.{turns, turns_waiting, NoneLarger}
use Rattle.cc_derivation.proofs.derivation.Der.TheLaws.{the_size}
use Rattle.cc_derivation.proofs.derivation.Premises.TheLaws.{the_size as size_of_list}
use Rattle.cc_derivation.proofs.+drops.Given as goal

abbrev pub invariant-derivation::Der::drop-loop-left :
    goal.invariant-derivation::Der::drop-loop-left
invariant-derivation::Der::drop-loop-left l =
    record { own : size_of_list l.left ≤ the_size l.fn.self; others : NoneLarger size_of_list (the_size l.fn.self) l.waiting }

abbrev pub decreases-derivation::Der::drop-loop-left :
    goal.decreases-derivation::Der::drop-loop-left
decreases-derivation::Der::drop-loop-left l = turns l.left + turns_waiting l.waiting
