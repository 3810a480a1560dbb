use Rattle.std.proofs.Common.{sym, ◌∙◌, arith, inl, inr, append_assoc}
use Rattle.std.proofs.lemmas.List.{take_rest}
use Rattle.std.proofs.lemmas.Result.{IfOk-weaker}
use Rattle.cc_capture.proofs.WordEdits.{joined-nothing_left, joined-nothing_right}
use Rattle.cc_capture.proofs.WordMerging.{joined-at_less, joined-at_equal, joined-at_greater, joined-ended}
use Rattle.cc_capture.proofs.WordMerging.{joined_so_far, cmp-Less, cmp-Equal, cmp-Greater}
use Rattle.cc_capture.proofs.words.join.Goals as goal
use Rattle.cc_capture.proofs.words.join.Goals.{then-loop-at-test+else-other_at-right, else-loop-at-test}

pub returns-then-is_empty : goal.returns-then-is_empty
returns-then-is_empty c =
    IfOk-weaker c.from_slice.result _ _ (λ v e. e ∙ joined-nothing_left c.args.left.now c.args.right.now (sym c.is_empty.ensures ∙ c.if-is_empty.true))
    c.from_slice.ensures.items

pub returns-then-is_empty-2 : goal.returns-then-is_empty-2
returns-then-is_empty-2 c =
    IfOk-weaker c.from_slice-then-is_empty-2.result _ _ (λ v e. e ∙ joined-nothing_right c.args.left.now c.args.right.now (sym c.is_empty-2.ensures ∙ c.if-is_empty-2.true))
    c.from_slice-then-is_empty-2.ensures.items

pub loop-at-preserved-in-Less : goal.loop-at-preserved-in-Less
loop-at-preserved-in-Less c =
    let step =
    joined-at_less c.args.left.now c.args.right.now c.loop-at.at c.loop-at.other_at _ _ c.loop-at-test.true
    c.if-other_at-right.true (cmp-Less _ _ (sym c.cmp.ensures ∙ c.in-Less.is)) in
    record {
      within = omega arith;
      other_within = omega arith;
      so_far = rw c.in_ok-push-in-Less.ensures.items (joined_so_far _ _ _ _ _ c.loop-at.invariant.so_far step);
    }

pub loop-at-preserved-in-Equal : goal.loop-at-preserved-in-Equal
loop-at-preserved-in-Equal c =
    let step =
    joined-at_equal c.args.left.now c.args.right.now c.loop-at.at c.loop-at.other_at _ _ c.loop-at-test.true
    c.if-other_at-right.true (cmp-Equal _ _ (sym c.cmp.ensures ∙ c.in-Equal.is)) in
    record {
      within = omega arith;
      other_within = omega arith;
      so_far = rw c.in_ok-push-in-Equal.ensures.items (joined_so_far _ _ _ _ _ c.loop-at.invariant.so_far step);
    }

pub loop-at-preserved : goal.loop-at-preserved
loop-at-preserved c =
    let step =
    joined-at_greater c.args.left.now c.args.right.now c.loop-at.at c.loop-at.other_at _ _ c.loop-at-test.true
    c.if-other_at-right.true (cmp-Greater _ _ (sym c.cmp.ensures ∙ c.in-Greater.is)) in
    record {
      within = omega arith;
      other_within = omega arith;
      so_far = rw c.in_ok-push-in-Greater.ensures.items (joined_so_far _ _ _ _ _ c.loop-at.invariant.so_far step);
    }

pub returns : goal.returns
returns c =
    let ended =
    joined-ended c.args.left.now c.args.right.now c.loop-at.at c.loop-at.other_at
    (elim c.loop-at-test.branch [
      | then-loop-at-test+else-other_at-right w ↦ inr
          w.if-other_at-right.false
      | else-loop-at-test w ↦ inl w.loop-at-test.false
    ]) in
    rw (
      c.in_ok-extend_from_slice-2.ensures.items,
      c.in_ok-extend_from_slice.ensures.items,
      take_rest c.args.left.now
          c.loop-at.at,
      take_rest c.args.right.now c.loop-at.other_at,
      append_assoc,
      ended,
    ) c.loop-at.invariant.so_far
