use Rattle.std.proofs.Common.{◌≡◌, []}
use Rattle.cc_core.specs.WellFormed.{kinds_of}
use Rattle.cc_core.specs.WaitingTests.{passed_kinds, in_turn, all_well_formed, turns_left}
use Rattle.cc_core.specs.TermViews.{context_of}
use Rattle.cc_core.proofs.wellformed.are_well_formed.Given as goal

abbrev pub invariant-loop-next : goal.invariant-loop-next
invariant-loop-next l =
    all_well_formed (kinds_of (context_of l.ctx)) (passed_kinds l.passed.items) (in_turn l.waiting.items)
    ≡ all_well_formed (kinds_of (context_of l.ctx)) [] (in_turn l.fn.waiting.items)

abbrev pub decreases-loop-next : goal.decreases-loop-next
decreases-loop-next l = turns_left (in_turn l.waiting.items)
