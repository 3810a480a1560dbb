use Rattle.std.proofs.Common.{◌<◌, length, refl, arith}
use Rattle.std.proofs.lemmas.Option.{slice_get_read}
use Rattle.cc_solve.specs.Solutions.{filling_of}
use Rattle.cc_solve.proofs.Judgements.{judged_one, served_next}
use Rattle.cc_definition_reasoning.proofs.failing.first_failing.Goals as goal

pub is_served-requires-clause-judged : goal.is_served-requires-clause-judged
is_served-requires-clause-judged c =
    let below : c.loop-index.index < length c.args.demands.now = omega (arith, c.loop-index-test.true, c.loop-index.auto.index-end) in
    judged_one (filling_of c.args.filling.now) c.args.demands.now c.loop-index.index c.index-demands-index.result c.requires below c.index-demands-index.is

pub returns-then-not-branch : goal.returns-then-not-branch
returns-then-not-branch c =
    let below : c.loop-index.index < length c.args.demands.now = omega (arith, c.loop-index-test.true, c.loop-index.auto.index-end) in (
      c.index-demands-index.result,
      slice_get_read c.args.demands.now (length c.args.demands.now) c.loop-index.index c.index-demands-index.result refl below c.index-demands-index.is,
      c.loop-index.invariant.served,
      λ served. let yes = c.in_ok-is_served.ensures.served.1 served in let no = c.if-not-branch.true in cc,
    )

pub loop-index-preserved : goal.loop-index-preserved
loop-index-preserved c =
    let below : c.loop-index.index < length c.args.demands.now = omega (arith, c.loop-index-test.true, c.loop-index.auto.index-end) in
    record {
      clear = c.in_ok-is_served.ensures.clear;
      served =
          served_next (filling_of c.args.filling.now) c.args.demands.now c.loop-index.index c.index-demands-index.result below c.index-demands-index.is c.loop-index.invariant.served
          c.in_ok-is_served.field-0 c.in_ok-is_served.ensures.served c.if-not-branch.false;
    }
