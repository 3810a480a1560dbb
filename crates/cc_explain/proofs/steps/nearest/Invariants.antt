use Rattle.std.proofs.Common.{◌≡◌, drop, None}
use Rattle.cc_explain.specs.Steps.{length_from, nearest_from}
use Rattle.cc_explain.proofs.steps.nearest.Given as goal

abbrev pub invariant-loop-target : goal.invariant-loop-target
invariant-loop-target l =
    nearest_from (length_from l.steps l.to) l.best (drop l.target-index l.entry)
    ≡ nearest_from (length_from l.steps l.to) None l.entry
