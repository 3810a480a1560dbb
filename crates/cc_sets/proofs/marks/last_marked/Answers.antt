use Rattle.std.proofs.Common.{◌≡◌, ◌+◌, ◌-◌, ◌*◌, subst, arith}
use Rattle.cc_sets.proofs.MarkedWords.{IsClearFrom, word_clear, last_found}
use Rattle.cc_sets.proofs.marks.last_marked.Goals as goal

pub returns-then-word-ne0 : goal.returns-then-word-ne0
returns-then-word-ne0 c =
    let one : c.loop-at.at ≡ c.loop-at.at - 1 + 1 = omega (arith, c.loop-at-test.true) in
    last_found c.args.words.now (c.loop-at.at - 1) c.last_in.result (omega (arith, c.loop-at-test.true, c.loop-at.invariant.0)) c.last_in.ensures.place c.last_in.ensures.marked c.last_in.ensures.last
    (subst (λ n. IsClearFrom (64 * n) c.args.words.now) one c.loop-at.invariant.1)

pub loop-at-preserved : goal.loop-at-preserved
loop-at-preserved c =
    let one : c.loop-at.at ≡ c.loop-at.at - 1 + 1 = omega (arith, c.loop-at-test.true) in (
      omega (arith, c.loop-at.invariant.0),
      word_clear c.args.words.now (c.loop-at.at - 1) (omega (arith, c.loop-at-test.true, c.loop-at.invariant.0)) c.if-word-ne0.false
          (subst (λ n. IsClearFrom (64 * n) c.args.words.now) one c.loop-at.invariant.1),
    )
