use Rattle.std.proofs.Common.{arith}
use Rattle.cc_sets.proofs.MarkedWords.{cleared_words}
use Rattle.cc_sets.proofs.marks.clear_words.Goals as goal

pub returns : goal.returns
returns c =
    cleared_words c.args.words.now c.loop-at.words c.loop-at.at c.args.limit c.loop-at.invariant.0
    (omega (arith, c.words_for-at-end.ensures.enough, c.loop-at-test.false)) c.requires.above c.loop-at.invariant.1 c.loop-at.invariant.2
