use Rattle.std.proofs.Common.{◌∙◌}
use Rattle.cc_capture.specs.Sets.{same_set}
use Rattle.cc_capture.specs.Words.{same_words}
use Rattle.cc_capture.proofs.WordSets.{same_set-set_of}
use Rattle.cc_capture.proofs.set.CapSetPartialEq.eq.Goals as goal

pub returns : goal.returns
returns c =
    c.same_words.ensures
    ∙ (λ i. same_words (c.as_slice.ensures.value i) (c.as_slice-2.ensures.value i))
    ∙ same_set-set_of c.self.inside.words.items c.other.inside.words.items c.self.invariant c.other.invariant
    ∙ (λ i. same_set (c.self.view_is i) (c.other.view_is i))
