use Rattle.std.proofs.Common.{◌≡◌, ◌≤◌, length, drop}
use Rattle.cc_verdicts.specs.PresentTexts.{graph_of}
use Rattle.cc_judge.proofs.dependencies.import_graph.Given as goal

abbrev pub invariant-loop-left : goal.invariant-loop-left
invariant-loop-left l =
    record { within : l.left ≤ length l.texts; made : l.graph ≡ graph_of (drop l.left l.texts) }

abbrev pub decreases-loop-left : goal.decreases-loop-left
decreases-loop-left l = l.left
