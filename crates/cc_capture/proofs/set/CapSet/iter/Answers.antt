use Rattle.std.proofs.Common.{sym, ap, ◌∙◌}
use Rattle.cc_capture.specs.Words.{elements}
use Rattle.cc_capture.proofs.WordElements.{elements-none}
use Rattle.cc_capture.proofs.WordSets.{list-set_of}
use Rattle.cc_capture.proofs.set.CapSet.iter.Goals as goal

pub returns : goal.returns
returns c =
    elements-none 0 c.as_slice.result.now
    ∙ ap elements c.as_slice.ensures.value
    ∙ sym (list-set_of c.self.inside.words.items c.self.invariant)
    ∙ ap (λ s. s.list) c.self.view_is
