use Rattle.std.proofs.Common.{◌≡◌, [], map, drop}
use Rattle.cc_core.specs.TermViews.{context_of}
use Rattle.cc_certificate_judging.specs.Judging.{with_binds, bind_type}
use Rattle.cc_certificate_judging.proofs.judging.context_of_binds.Given as goal

abbrev pub invariant-loop-bind : goal.invariant-loop-bind
invariant-loop-bind l = with_binds (context_of l.ctx) (map bind_type (drop l.bind-index l.fn.binds)) ≡ with_binds [] (map bind_type l.fn.binds)
