use Rattle.std.proofs.Common.{[]}
use Rattle.cc_core.specs.TermViews.{shape_of}
use Rattle.cc_certificate_text.specs.Reading.{Got, shape_at}
use Rattle.cc_certificate_reading.specs.Numberings.{locals_of}
use Rattle.cc_certificate_reading.specs.Waiting.{Leads}
use Rattle.cc_certificate_reading.specs.WaitingShapes.{around, in_turn, IsLow}
use Rattle.cc_certificate_reading.proofs.types.read_shape.Given as goal

abbrev pub invariant-loop : goal.invariant-loop
invariant-loop l =
    Leads (around (locals_of l.locals) l.names) IsLow []
    (shape_at (locals_of l.locals) l.names l.room l.depth l.bytes) (in_turn l.waiting.items)
    (Got (shape_of l.shape) l.rest)
