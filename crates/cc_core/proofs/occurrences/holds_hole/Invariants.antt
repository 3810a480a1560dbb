use Rattle.std.proofs.Common.{◌≡◌, false}
use Rattle.std.specs.List.{list_any}
use Rattle.cc_core.specs.Questions.{is_hole}
use Rattle.cc_core.proofs.occurrences.holds_hole.Given as goal

abbrev pub invariant-loop-elem : goal.invariant-loop-elem
invariant-loop-elem l = list_any is_hole l.yielded ≡ false
