use Rattle.std.proofs.Common.{◌≡◌}
use Rattle.cc_core.specs.TermViews.{shape_of}
use Rattle.cc_certificate_text.specs.LocalNames.{has_binder}
use Rattle.cc_certificate_reading.proofs.claims.has_binder.Given as goal

abbrev pub invariant-loop-inner : goal.invariant-loop-inner
invariant-loop-inner l = has_binder (shape_of l.inner) ≡ has_binder (shape_of l.fn.shape)
