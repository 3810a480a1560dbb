use Rattle.std.proofs.Common.{◌≡◌}
use Rattle.cc_core.specs.TermViews.{context_of}
use Rattle.cc_known.specs.Signatures.{greatest_in_set, height_of}
use Rattle.cc_avoid.specs.AvoidedTogether.{set_avoiding}
use Rattle.cc_avoid.specs.Avoiding.{sign_of}
use Rattle.cc_check.specs.SignedParts.{declared_sets}
use Rattle.cc_check.proofs.signing.avoid_each.Given as goal

-- what is left stands for the same
abbrev pub invariant-loop-position : goal.invariant-loop-position
invariant-loop-position l =
    set_avoiding (sign_of l.sign) (declared_sets l.devices (context_of l.ctx)) l.set
    ≡ set_avoiding (sign_of l.sign) (declared_sets l.devices (context_of l.ctx)) l.left

abbrev pub decreases-loop-position : goal.decreases-loop-position
decreases-loop-position l = height_of (greatest_in_set l.devices l.left)
