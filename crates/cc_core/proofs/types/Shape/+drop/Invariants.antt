use Rattle.std.proofs.Common.{◌≡◌, ℕ, ◌+◌, ◌-◌, ◌*◌, ◌<◌, ◌≤◌, length, Bool, true, false}
use Rattle.cc_core.specs.Leaves.{is_leaf}
use Rattle.cc_core.proofs.DroppedParts.{parts, ahead}
use Rattle.cc_core.proofs.types.Shape.+drop.Given as goal

abbrev pub decreases-drop : goal.decreases-drop
decreases-drop l = parts l.self

abbrev pub invariant-loop-self : goal.invariant-loop-self
invariant-loop-self l = parts l.self + parts l.waiting ≤ parts l.fn.self + 1

abbrev pub decreases-loop-self : goal.decreases-loop-self
decreases-loop-self l = ahead (parts l.fn.self) (parts l.self) (parts l.waiting) (is_leaf l.waiting)
