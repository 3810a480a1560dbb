use Rattle.std.proofs.Common.{length, sym, ap, ◌∙◌}
use Rattle.std.proofs.lemmas.List.{length-map}
use Rattle.cc_capture.specs.Numbers.{element_at}
use Rattle.cc_capture.specs.Words.{numbers}
use Rattle.cc_capture.proofs.WordSets.{list-set_of}
use Rattle.cc_capture.proofs.set.CapSet.len.Goals as goal

pub returns : goal.returns
returns c =
    c.count.ensures
    ∙ ap (λ ws. length (numbers ws)) c.as_slice.ensures.value
    ∙ sym (length-map (numbers c.self.inside.words.items) element_at)
    ∙ ap length (sym (list-set_of c.self.inside.words.items c.self.invariant))
    ∙ ap (λ s. length s.list) c.self.view_is
