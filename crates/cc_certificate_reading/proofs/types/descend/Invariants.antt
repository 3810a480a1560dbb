use Rattle.std.proofs.Common.{ℕ, List}
use Rattle.cc_certificate_text.specs.Reading.{shape_at}
use Rattle.cc_certificate_reading.specs.Numberings.{locals_of}
use Rattle.cc_certificate_reading.specs.Waiting.{Leads}
use Rattle.cc_certificate_reading.specs.WaitingShapes.{around, in_turn, IsLow}
use Rattle.cc_certificate_reading.proofs.types.descend.Given as goal

abbrev pub invariant-loop-room : goal.invariant-loop-room
invariant-loop-room l =
    (names : List (List ℕ))
    → Leads (around (locals_of l.locals) names) IsLow (in_turn l.fn.waiting.items)
    (shape_at (locals_of l.locals) names l.fn.room l.depth l.fn.bytes) (in_turn l.waiting.items)
    (shape_at (locals_of l.locals) names l.room l.depth l.start)

abbrev pub decreases-loop-room : goal.decreases-loop-room
decreases-loop-room l = l.room
