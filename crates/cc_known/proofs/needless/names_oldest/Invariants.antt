use Rattle.std.proofs.Common.{◌≡◌, true}
use Rattle.std.specs.List.{list_all}
use Rattle.cc_known.specs.Keeping.{is_among_oldest}
use Rattle.cc_known.proofs.needless.names_oldest.Given as goal

abbrev pub invariant-loop-elem : goal.invariant-loop-elem
invariant-loop-elem l = list_all (is_among_oldest l.oldest) l.yielded ≡ true
