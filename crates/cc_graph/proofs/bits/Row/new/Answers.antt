use Rattle.std.proofs.Common.{ap, ◌∙◌, ◌+◌, ◌/◌}
use Rattle.cc_graph.proofs.BitLemmas.{empty_words}
use Rattle.cc_graph.specs.Places.{has_bit}
use Rattle.cc_graph.proofs.bits.Row.new.Goals as goal

pub returns-clause-empty : goal.returns-clause-empty
returns-clause-empty c =
    λ place. ap (λ w. has_bit w place) (c.in_ok-words.ensures.items_if_clones_equal (λ y same. same))
    ∙ empty_words (c.args.count / 64 + 1) place
