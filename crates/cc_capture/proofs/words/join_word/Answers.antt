use Rattle.std.proofs.Common.{◌<◌, ◌≤◌, length, ap, ◌∙◌, arith}
use Rattle.cc_capture.specs.Words.{place}
use Rattle.cc_capture.proofs.WordEdits.{joined-at, joined-not_at, joined-pushed, one_word}
use Rattle.cc_capture.proofs.words.join_word.Goals as goal

pub returns-then-index-len-clause-ok : goal.returns-then-index-len-clause-ok
returns-then-index-len-clause-ok c =
    let is = c.place-index.ensures ∙ ap (place c.args.word.at) c.as_slice.ensures.value in
    let past : length c.args.items.now.items ≤ place c.args.word.at c.args.items.now.items =
    omega (arith, is, c.if-index-len.true, c.len.ensures, c.as_slice.ensures.len, ap length c.as_slice.ensures.value) in
    c.in_ok-push.ensures.items ∙ joined-pushed c.args.word c.args.items.now.items past

pub returns-then-index-word-clause-ok : goal.returns-then-index-word-clause-ok
returns-then-index-word-clause-ok c =
    let is = c.place-index.ensures ∙ ap (place c.args.word.at) c.as_slice.ensures.value in
    let within : c.place-index.result < length c.args.items.now.items =
    omega (arith, c.if-index-len.false, c.len.ensures, c.as_slice.ensures.len, ap length c.as_slice.ensures.value) in
    let one =
    one_word c.args.items.now.items c.place-index.result c.index_mut.result.now c.index.result.now
    within c.index_mut.ensures.value c.index.ensures in
    joined-at c.args.word c.args.items.now.items c.place-index.result c.index_mut.result.now is
    within c.index_mut.ensures.value (ap (λ w. w.at) one ∙ c.if-index-word.true)

pub returns-clause-ok : goal.returns-clause-ok
returns-clause-ok c =
    let is = c.place-index.ensures ∙ ap (place c.args.word.at) c.as_slice.ensures.value in
    c.in_ok-insert.ensures.items
    ∙ joined-not_at c.args.word c.args.items.now.items c.place-index.result _ is c.index.ensures c.if-index-word.false
