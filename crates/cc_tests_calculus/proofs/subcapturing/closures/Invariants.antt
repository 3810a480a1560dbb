use Rattle.cc_core.specs.TermViews.{context_of}
use Rattle.cc_core.specs.WellFormed.{IsWellFormedContext}
use Rattle.cc_tests_calculus.proofs.subcapturing.closures.Given as goal

abbrev pub invariant-loop-index : goal.invariant-loop-index
invariant-loop-index l = IsWellFormedContext (context_of l.ctx)
