use Rattle.std.proofs.Common.{◌∙◌}
use Rattle.cc_capture.specs.Sets.{is_subset}
use Rattle.cc_capture.specs.Words.{is_within}
use Rattle.cc_capture.proofs.WordSets.{is_subset-set_of}
use Rattle.cc_capture.proofs.set.CapSet.is_subset.Goals as goal

pub returns : goal.returns
returns c =
    c.is_within.ensures
    ∙ (λ i. is_within (c.as_slice.ensures.value i) (c.as_slice-2.ensures.value i))
    ∙ is_subset-set_of c.self.inside.words.items c.other.inside.words.items c.self.invariant c.other.invariant
    ∙ (λ i. is_subset (c.self.view_is i) (c.other.view_is i))
