use Rattle.cc_core.specs.TermViews.{term_of}
use Rattle.cc_validity.specs.Gathering.{in_turn, GoesDown}
use Rattle.cc_validity.proofs.captures.descend.Given as goal

abbrev pub invariant-loop-inner : goal.invariant-loop-inner
invariant-loop-inner l =
    GoesDown (term_of l.fn.node) (in_turn l.fn.waiting.items) (term_of l.inner) (in_turn l.waiting.items)
