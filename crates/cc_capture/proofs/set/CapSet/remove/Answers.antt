use Rattle.std.proofs.Common.{sym, ap, ◌∙◌, subst}
use Rattle.cc_capture.specs.Sets.{remove}
use Rattle.cc_capture.specs.Words.{IsSparse}
use Rattle.cc_capture.proofs.SparseWords.{IsSparse-without}
use Rattle.cc_capture.proofs.WordSets.{set_of, set_of-without}
use Rattle.cc_capture.proofs.set.CapSet.remove.Goals as goal

pub invariant_of-self : goal.invariant_of-self
invariant_of-self c =
    subst IsSparse (sym c.remove_number.ensures)
    (IsSparse-without c.element_number.result c.self.inside.words.items c.self.invariant)

pub returns : goal.returns
returns c =
    ap set_of c.remove_number.ensures
    ∙ set_of-without c.element_number.result c.self.inside.words.items c.self.invariant
    ∙ (λ i. remove (c.element_number.ensures.back i) (c.self.view_is i))
