use Rattle.std.proofs.Common.{◌<◌, ◌≤◌, ◌/◌, length, slice_set, ap, ◌∙◌, arith}
use Rattle.cc_capture.specs.Words.{place}
use Rattle.cc_capture.proofs.SparseWords.{cleared}
use Rattle.cc_capture.proofs.WordEdits.{without-at_emptied, without-at_cleared, without-not_at, without-past, one_word}
use Rattle.cc_capture.proofs.words.remove_number.Goals as goal
use Rattle.cc_capture.proofs.words.remove_number.Goals.{else-index-len-via-then-index-len+else-index-at}
use Rattle.cc_capture.proofs.words.remove_number.Goals.{else-index-len-via-else-index-len}

pub returns-then-rest-eq0 : goal.returns-then-rest-eq0
returns-then-rest-eq0 c =
    let is = c.place-index.ensures ∙ ap (place (c.args.number / 64)) c.as_slice.ensures.value in
    let within : c.place-index.result < length c.args.items.now.items =
    omega (arith, c.if-index-len.true, c.len.ensures, c.as_slice.ensures.len, ap length c.as_slice.ensures.value) in
    let one =
    one_word c.args.items.now.items c.place-index.result c.index-then-index-at.result.now c.index.result.now
    within c.index-then-index-at.ensures c.index.ensures in
    c.remove.ensures.items
    ∙ without-at_emptied c.args.number c.args.items.now.items c.place-index.result c.index-then-index-at.result.now is
    within c.index-then-index-at.ensures (ap (λ w. w.at) one ∙ c.if-index-at.true) c.if-rest-eq0.true

pub returns-else-rest-eq0 : goal.returns-else-rest-eq0
returns-else-rest-eq0 c =
    let is = c.place-index.ensures ∙ ap (place (c.args.number / 64)) c.as_slice.ensures.value in
    let within : c.place-index.result < length c.args.items.now.items =
    omega (arith, c.if-index-len.true, c.len.ensures, c.as_slice.ensures.len, ap length c.as_slice.ensures.value) in
    let one =
    one_word c.args.items.now.items c.place-index.result c.index-then-index-at.result.now c.index.result.now
    within c.index-then-index-at.ensures c.index.ensures in
    let other =
    one_word c.args.items.now.items c.place-index.result c.index_mut.result.now c.index-then-index-at.result.now
    within c.index_mut.ensures.value c.index-then-index-at.ensures in
    ap (λ w. slice_set c.args.items.now.items c.place-index.result
    (record { at = w.at; bits = cleared c.args.number c.index-then-index-at.result.now.bits })) other
    ∙ without-at_cleared c.args.number c.args.items.now.items c.place-index.result c.index-then-index-at.result.now is
    within c.index-then-index-at.ensures (ap (λ w. w.at) one ∙ c.if-index-at.true) c.if-rest-eq0.false

pub returns-else-index-len : goal.returns-else-index-len
returns-else-index-len c =
    let is = c.place-index.ensures ∙ ap (place (c.args.number / 64)) c.as_slice.ensures.value in
    elim c.else-index-len.branch [
      | else-index-len-via-then-index-len+else-index-at w ↦
          without-not_at c.args.number c.args.items.now.items c.place-index.result _ c.requires.sparse is
          w.index.ensures w.if-index-at.false
      | else-index-len-via-else-index-len w ↦
          let past : length c.args.items.now.items ≤ c.place-index.result =
          omega (
            arith,
            w.if-index-len.false,
            c.len.ensures,
            c.as_slice.ensures.len,
            ap length
                c.as_slice.ensures.value,
          ) in
          without-past c.args.number c.args.items.now.items c.place-index.result c.requires.sparse is past
    ]
