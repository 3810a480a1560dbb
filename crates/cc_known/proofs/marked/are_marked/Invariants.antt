use Rattle.std.proofs.Common.{◌≡◌, true}
use Rattle.std.specs.List.{list_all}
use Rattle.cc_known.specs.MarkedEntries.{is_marked_element}
use Rattle.cc_known.proofs.marked.are_marked.Given as goal

abbrev pub invariant-loop-elem : goal.invariant-loop-elem
invariant-loop-elem l = list_all (is_marked_element l.marks) l.yielded ≡ true
