use Rattle.cc_core.specs.TermViews.{term_of}
use Rattle.cc_validity.specs.Gathering.{in_turn, turns_left, IsBehind}
use Rattle.cc_validity.proofs.captures.gathered.Given as goal

abbrev pub invariant-loop-next : goal.invariant-loop-next
invariant-loop-next l = IsBehind (term_of l.fn.node) (in_turn l.waiting.items) l.found

abbrev pub decreases-loop-next : goal.decreases-loop-next
decreases-loop-next l = turns_left (in_turn l.waiting.items)
