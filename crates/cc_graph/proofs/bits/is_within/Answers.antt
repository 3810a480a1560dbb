use Rattle.std.proofs.Common.{arith}
use Rattle.cc_graph.proofs.BitLemmas.{missing_bit, bits_within}
use Rattle.cc_graph.proofs.bits.is_within.Goals as goal

pub returns-then-words-at-ne0-clause-no : goal.returns-then-words-at-ne0-clause-no
returns-then-words-at-ne0-clause-no c =
    λ no. missing_bit c.args.words.now c.args.others.now c.loop-at.at
    (omega (arith, c.type_inv.words c.loop-at.at)) (omega (arith, c.type_inv.others c.loop-at.at))
    c.if-words-at-ne0.true

pub returns-clause-yes : goal.returns-clause-yes
returns-clause-yes c =
    λ yes. bits_within c.args.words.now c.args.others.now
    (λ at below. omega (arith, c.type_inv.others at))
    (λ at below. c.loop-at.invariant at (omega arith))
