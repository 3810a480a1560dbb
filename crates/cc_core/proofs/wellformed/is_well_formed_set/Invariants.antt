use Rattle.std.proofs.Common.{◌≡◌, true}
use Rattle.std.specs.List.{list_all}
use Rattle.cc_core.specs.WellFormed.{kinds_of, is_well_formed_element}
use Rattle.cc_core.specs.WaitingTests.{passed_kinds}
use Rattle.cc_core.specs.TermViews.{context_of}
use Rattle.cc_core.proofs.wellformed.is_well_formed_set.Given as goal

abbrev pub invariant-loop-elem : goal.invariant-loop-elem
invariant-loop-elem l = list_all (is_well_formed_element (kinds_of (context_of l.ctx)) (passed_kinds l.passed)) l.yielded ≡ true
