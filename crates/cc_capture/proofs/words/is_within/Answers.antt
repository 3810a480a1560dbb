use Rattle.std.proofs.Common.{sym, ◌∙◌, arith, inl, inr}
use Rattle.cc_capture.proofs.WordMerging.{is_within-at_less, is_within-at_equal, is_within-at_outside}
use Rattle.cc_capture.proofs.WordMerging.{is_within-at_greater, is_within-ended, cmp-Less, cmp-Equal, cmp-Greater}
use Rattle.cc_capture.proofs.words.is_within.Goals as goal
use Rattle.cc_capture.proofs.words.is_within.Goals.{then-loop-at-test+else-other_at-right, else-loop-at-test}

pub returns-in-Less : goal.returns-in-Less
returns-in-Less c =
    let step =
    is_within-at_less c.args.left.now c.args.right.now c.loop-at.at c.loop-at.other_at _ _ c.requires.left_sparse
    c.requires.right_sparse c.loop-at-test.true c.if-other_at-right.true
    (cmp-Less _ _ (sym c.cmp.ensures ∙ c.in-Less.is)) in
    sym step ∙ c.loop-at.invariant.1

pub returns-then-next-other-ne0 : goal.returns-then-next-other-ne0
returns-then-next-other-ne0 c =
    let step =
    is_within-at_outside c.args.left.now c.args.right.now c.loop-at.at c.loop-at.other_at _ _ c.requires.left_sparse
    c.requires.right_sparse c.loop-at-test.true c.if-other_at-right.true
    (cmp-Equal _ _ (sym c.cmp.ensures ∙ c.in-Equal.is)) c.if-next-other-ne0.true in
    sym step ∙ c.loop-at.invariant.1

pub loop-at-preserved-in-Equal : goal.loop-at-preserved-in-Equal
loop-at-preserved-in-Equal c =
    let step =
    is_within-at_equal c.args.left.now c.args.right.now c.loop-at.at c.loop-at.other_at _ _ c.requires.left_sparse
    c.requires.right_sparse c.loop-at-test.true c.if-other_at-right.true
    (cmp-Equal _ _ (sym c.cmp.ensures ∙ c.in-Equal.is)) c.if-next-other-ne0.false in
    (omega arith, sym step ∙ c.loop-at.invariant.1)

pub loop-at-preserved : goal.loop-at-preserved
loop-at-preserved c =
    let step =
    is_within-at_greater c.args.left.now c.args.right.now c.loop-at.at c.loop-at.other_at _ _ c.requires.left_sparse
    c.requires.right_sparse c.loop-at-test.true c.if-other_at-right.true
    (cmp-Greater _ _ (sym c.cmp.ensures ∙ c.in-Greater.is)) in
    (omega arith, sym step ∙ c.loop-at.invariant.1)

pub returns : goal.returns
returns c =
    is_within-ended c.args.left.now c.args.right.now c.loop-at.at c.loop-at.other_at c.requires.left_sparse
    c.loop-at.invariant.0
    (elim c.loop-at-test.branch [
      | then-loop-at-test+else-other_at-right w ↦ inr
          w.if-other_at-right.false
      | else-loop-at-test w ↦ inl w.loop-at-test.false
    ])
    ∙ c.loop-at.invariant.1
