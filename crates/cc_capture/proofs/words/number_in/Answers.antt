use Rattle.std.proofs.Common.{◌≡◌, ◌∷◌, length, ap, ◌∙◌, arith}
use Rattle.cc_capture.specs.Words.{word_numbers}
use Rattle.cc_capture.proofs.WordElements.{bits-positive, slice_get-next, slice_get-first}
use Rattle.cc_capture.proofs.words.number_in.Goals as goal

pub split_lowest-requires : goal.split_lowest-requires
split_lowest-requires c = (
  bits-positive c.loop-before.left c.loop-before.before c.loop-before.invariant.within,
  c.loop-before.invariant.bounded,
)

pub loop-before-preserved : goal.loop-before-preserved
loop-before-preserved c =
    let long : length (word_numbers c.loop-before.left) ≡ length
    (c.split_lowest.result.0 ∷ word_numbers c.split_lowest.result.1) =
    ap length c.split_lowest.ensures.numbers in
    record {
      bounded = c.split_lowest.ensures.others;
      within = omega (arith, long, c.loop-before.invariant.within, c.loop-before-test.true);
      same = slice_get-next _ _ _ c.loop-before.before c.loop-before-test.true c.split_lowest.ensures.numbers
          ∙ c.loop-before.invariant.same;
    }

pub split_lowest-requires-2 : goal.split_lowest-requires-2
split_lowest-requires-2 c = (
  bits-positive c.loop-before.left c.loop-before.before c.loop-before.invariant.within,
  c.loop-before.invariant.bounded,
)

pub returns : goal.returns
returns c =
    slice_get-first _ _ _ c.loop-before.before c.loop-before-test.false c.split_lowest-2.ensures.numbers
    ∙ c.loop-before.invariant.same
