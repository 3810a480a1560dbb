use Rattle.std.proofs.Common.{◌++◌, ◌+◌, length}
use Rattle.cc_core.specs.Actions.{renamed_by}
use Rattle.cc_core.specs.TermViews.{context_of}
use Rattle.cc_known.proofs.KeyedPairs.{StandsBelow}
use Rattle.cc_known.proofs.keys.entries_stand.Given as goal

abbrev pub invariant-loop-index : goal.invariant-loop-index
invariant-loop-index l =
    StandsBelow (context_of l.entries ++ context_of l.base) (context_of l.ctx) (renamed_by l.to)
    (length (context_of l.base) + l.index) l.next
