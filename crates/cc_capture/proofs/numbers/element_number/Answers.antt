use Rattle.std.proofs.Common.{◌+◌, sym, ap, ◌∙◌}
use Rattle.cc_capture.proofs.ElementNumbers.{element_at_Hole_number}
use Rattle.cc_capture.proofs.numbers.element_number.Goals as goal

pub returns-in-Hole-clause-back : goal.returns-in-Hole-clause-back
returns-in-Hole-clause-back c =
    element_at_Hole_number c.in-Hole.number _ (ap (λ n. 8589934593 + n) c.from.ensures) ∙ sym c.in-Hole.is
