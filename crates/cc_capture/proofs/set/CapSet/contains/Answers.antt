use Rattle.std.proofs.Common.{ap, ◌∙◌}
use Rattle.cc_capture.specs.Sets.{contains}
use Rattle.cc_capture.specs.Words.{holds}
use Rattle.cc_capture.proofs.WordSets.{contains-set_of}
use Rattle.cc_capture.proofs.set.CapSet.contains.Goals as goal

pub returns : goal.returns
returns c =
    c.holds.ensures
    ∙ ap (holds c.element_number.result) c.as_slice.ensures.value
    ∙ contains-set_of c.element_number.result c.self.inside.words.items c.self.invariant
    ∙ (λ i. contains (c.element_number.ensures.back i) (c.self.view_is i))
