use Rattle.std.proofs.Common.{arith}
use Rattle.cc_capture.proofs.WordElements.{length-numbers}
use Rattle.cc_capture.proofs.WordMerging.{length-numbers_at}
use Rattle.cc_capture.proofs.words.count.Goals as goal

pub overflow_add-count : goal.overflow_add-count
overflow_add-count c =
    let step =
    length-numbers_at c.loop-word.word-index
    (record { at = 0; bits = 0 }) c.args.items.now c.requires c.loop-word-test.true in
    let most = length-numbers c.args.items.now c.requires in
    omega (arith, step, most, c.loop-word.invariant)

pub loop-word-preserved : goal.loop-word-preserved
loop-word-preserved c =
    let step =
    length-numbers_at c.loop-word.word-index
    (record { at = 0; bits = 0 }) c.args.items.now c.requires c.loop-word-test.true in
    omega (arith, step, c.loop-word.invariant)
