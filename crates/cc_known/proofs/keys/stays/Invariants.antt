use Rattle.std.proofs.Common.{◌≡◌, ℕ, ◌<◌}
use Rattle.cc_core.specs.Actions.{renamed_by}
use Rattle.cc_known.proofs.keys.stays.Given as goal

abbrev pub invariant-loop-position : goal.invariant-loop-position
invariant-loop-position l = (position : ℕ) → position < l.position → renamed_by l.to position ≡ position
