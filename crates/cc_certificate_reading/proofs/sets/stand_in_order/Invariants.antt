use Rattle.std.proofs.Common.{◌≡◌, drop}
use Rattle.cc_certificate_text.specs.Reading.{stand_in_order}
use Rattle.cc_certificate_reading.specs.Numberings.{locals_of, stand_behind_last}
use Rattle.cc_certificate_reading.proofs.sets.stand_in_order.Given as goal

abbrev pub invariant-loop-elem : goal.invariant-loop-elem
invariant-loop-elem l =
    stand_behind_last (locals_of l.locals) l.last (drop l.elem-index l.elems) ≡ stand_in_order (locals_of l.locals) l.elems
