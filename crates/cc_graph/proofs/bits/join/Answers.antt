use Rattle.std.proofs.Common.{arith}
use Rattle.cc_graph.proofs.BitLemmas.{joined_words}
use Rattle.cc_graph.proofs.bits.join.Goals as goal

pub returns : goal.returns
returns c =
    joined_words c.args.words.now c.loop-at.words c.args.others.now c.loop-at.auto.words c.requires
    (λ j below. c.loop-at.invariant.0 j (omega arith))
