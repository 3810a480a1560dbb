use Rattle.std.proofs.Common.{sym}
use Rattle.cc_capture.proofs.SparseWords.{word_bits-at, word_bits-not_at, word_bits-past}
use Rattle.cc_capture.proofs.words.word_bits.Goals as goal
use Rattle.cc_capture.proofs.words.word_bits.Goals.{else-index-items-via-then-index-items+else-items-index}
use Rattle.cc_capture.proofs.words.word_bits.Goals.{else-index-items-via-else-index-items}

pub returns-then-items-index : goal.returns-then-items-index
returns-then-items-index c =
    word_bits-at c.args.at c.args.items.now c.place-index.result _ c.place-index.ensures c.if-index-items.true
    c.if-items-index.true

pub returns-else-index-items : goal.returns-else-index-items
returns-else-index-items c =
    elim c.else-index-items.branch [
      | else-index-items-via-then-index-items+else-items-index w ↦
          sym (word_bits-not_at c.args.at c.args.items.now c.place-index.result _ c.requires c.place-index.ensures
          w.if-items-index.false)
      | else-index-items-via-else-index-items w ↦
          sym (word_bits-past c.args.at c.args.items.now c.place-index.result c.requires c.place-index.ensures
          w.if-index-items.false)
    ]
