use Rattle.std.proofs.Common.{slice_index_or, ◌∙◌, arith}
use Rattle.cc_capture.proofs.WordElements.{length-word_numbers}
use Rattle.cc_capture.proofs.WordMerging.{sparse_at, slice_get-in, slice_get-after}
use Rattle.cc_capture.proofs.words.number_at.Goals as goal

pub number_in-requires-clause-bounded : goal.number_in-requires-clause-bounded
number_in-requires-clause-bounded c =
    (sparse_at c.loop-word.word-index (record { at = 0; bits = 0 }) c.args.items.now c.requires
    c.loop-word-test.true).0.1

pub number_in-requires-clause-within : goal.number_in-requires-clause-within
number_in-requires-clause-within c =
    let bounded =
    (sparse_at c.loop-word.word-index (record { at = 0; bits = 0 }) c.args.items.now c.requires
    c.loop-word-test.true).0.1 in
    let count =
    length-word_numbers (slice_index_or c.args.items.now c.loop-word.word-index (record { at = 0; bits = 0 }))
    bounded.0 in
    omega (arith, count, c.if-before-count.true)

pub returns-then-before-count : goal.returns-then-before-count
returns-then-before-count c =
    c.number_in.ensures
    ∙ slice_get-in c.loop-word.word-index (record { at = 0; bits = 0 }) c.args.items.now c.loop-word.before c.requires
    c.loop-word-test.true c.if-before-count.true
    ∙ c.loop-word.invariant

pub loop-word-preserved : goal.loop-word-preserved
loop-word-preserved c =
    slice_get-after c.loop-word.word-index (record { at = 0; bits = 0 }) c.args.items.now c.loop-word.before
    c.requires c.loop-word-test.true c.if-before-count.false
    ∙ c.loop-word.invariant
