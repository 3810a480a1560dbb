use Rattle.std.proofs.Common.{◌∙◌, ◌+◌, length, ap, arith}
use Rattle.cc_solve.proofs.Additions.{blank_none, blank_more}
use Rattle.cc_solve.proofs.Saturation.{length_more}
use Rattle.cc_solve.proofs.lists.empty_sets.Goals as goal

pub loop-init : goal.loop-init
loop-init c = record {
  count = ap length c.new-sets.ensures.items;
  blank = λ at. blank_none c.new-sets.result.items at c.new-sets.ensures.items;
}

pub loop-preserved : goal.loop-preserved
loop-preserved c = record {
  count = ap length c.in_ok-push.ensures.items ∙ length_more c.loop.sets.items c.new.result ∙ ap (λ n. n + 1) c.loop.invariant.count;
  blank = λ at. blank_more c.loop.sets.items c.push.new.self.items c.new.result at c.new.ensures c.in_ok-push.ensures.items (c.loop.invariant.blank);
}

pub returns-clause-count : goal.returns-clause-count
returns-clause-count c = omega (arith, c.loop.invariant.count, c.loop.auto.counter-end, c.loop-test.false)

pub returns-clause-empty : goal.returns-clause-empty
returns-clause-empty c = c.loop.invariant.blank
