use Rattle.std.proofs.Common.{◌≡◌, ◌++◌}
use Rattle.cc_core.specs.TermViews.{context_of}
use Rattle.cc_core.specs.WellFormed.{IsWellFormedContext}
use Rattle.cc_known.proofs.keys.entries_of.Given as goal

abbrev pub invariant-loop-bind : goal.invariant-loop-bind
invariant-loop-bind l =
    record {
      formed : IsWellFormedContext (context_of l.entries.whole);
      stands : context_of l.entries.whole ≡ context_of l.entries.own ++ context_of l.base;
    }
