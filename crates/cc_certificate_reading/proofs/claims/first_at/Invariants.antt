use Rattle.std.proofs.Common.{◌≡◌}
use Rattle.cc_certificate_text.specs.LineReading.{first_at, value_of}
use Rattle.cc_certificate_reading.proofs.claims.first_at.Given as goal

abbrev pub invariant-loop-room : goal.invariant-loop-room
invariant-loop-room l = value_of (first_at l.room l.here) ≡ value_of (first_at l.fn.room l.fn.bytes)

abbrev pub decreases-loop-room : goal.decreases-loop-room
decreases-loop-room l = l.room
