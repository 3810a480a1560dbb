use Rattle.std.proofs.Common.{◌+◌, ◌≤◌}
use Rattle.cc_core.specs.DroppedTerms.{turns, turns_waiting, NoneLarger}
use Rattle.cc_core.proofs.terms.Node.TheLaws.{the_size}
use Rattle.cc_core.proofs.terms.Node.+drop.Given as goal

abbrev pub invariant-loop-ty : goal.invariant-loop-ty
invariant-loop-ty l =
    (the_size l.self ≤ the_size l.fn.self) × NoneLarger the_size (the_size l.fn.self) l.waiting.form

abbrev pub decreases-loop-ty : goal.decreases-loop-ty
decreases-loop-ty l = turns l.self.form + turns_waiting l.waiting.form
