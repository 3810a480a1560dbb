use Rattle.std.proofs.Common.{sym, ap, ◌∙◌, subst}
use Rattle.cc_capture.specs.Sets.{union}
use Rattle.cc_capture.specs.Words.{IsSparse, joined}
use Rattle.cc_capture.proofs.SparseWords.{IsSparse-joined}
use Rattle.cc_capture.proofs.WordSets.{set_of, set_of-joined}
use Rattle.cc_capture.proofs.set.CapSet.union.Goals as goal

pub invariant_of-result : goal.invariant_of-result
invariant_of-result c =
    subst IsSparse
    (sym (c.in_ok-words.ensures ∙ (λ i. joined (c.as_slice.ensures.value i) (c.as_slice-2.ensures.value i))))
    (IsSparse-joined c.self.inside.words.items c.other.inside.words.items c.self.invariant c.other.invariant)

pub returns : goal.returns
returns c =
    ap set_of (c.in_ok-words.ensures ∙ (λ i. joined (c.as_slice.ensures.value i) (c.as_slice-2.ensures.value i)))
    ∙ set_of-joined c.self.inside.words.items c.other.inside.words.items c.self.invariant c.other.invariant
    ∙ (λ i. union (c.self.view_is i) (c.other.view_is i))
