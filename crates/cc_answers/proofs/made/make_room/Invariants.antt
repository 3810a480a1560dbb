use Rattle.std.proofs.Common.{◌≡◌, length}
use Rattle.cc_answers.specs.MadeThings.{left_for}
use Rattle.cc_answers.proofs.made.make_room.Given as goal

abbrev pub invariant-loop-made : goal.invariant-loop-made
invariant-loop-made g l = left_for l.size l.made.items ≡ left_for l.size l.initial.made.items

abbrev pub decreases-loop-made : goal.decreases-loop-made
decreases-loop-made g l = length l.made.items
