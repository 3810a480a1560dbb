use Rattle.std.proofs.Common.{◌≡◌, ◌++◌, map, length, drop}
use Rattle.cc_core.specs.TermViews.{context_of}
use Rattle.cc_derivation.specs.Rows as plain
use Rattle.cc_validity.specs.Spots.{places_of}
use Rattle.cc_validity.proofs.premises.each.Given as goal

abbrev pub invariant-loop-first : goal.invariant-loop-first
invariant-loop-first l =
    map (λ e. plain.SetsBelow (context_of l.ctx)) (drop l.at l.set.list) ++ places_of l.spots
    ≡ map (λ e. plain.SetsBelow (context_of l.ctx)) (drop l.fn.index l.set.list)

abbrev pub decreases-loop-first : goal.decreases-loop-first
decreases-loop-first l = length (drop l.at l.set.list)
