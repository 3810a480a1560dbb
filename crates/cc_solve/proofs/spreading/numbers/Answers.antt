use Rattle.std.proofs.Common.{arith}
use Rattle.cc_solve.proofs.Saturation.{numbers_all, numbers_only}
use Rattle.cc_solve.proofs.spreading.numbers.Goals as goal

pub loop-number-preserved : goal.loop-number-preserved
loop-number-preserved c = record {
  all = numbers_all c.loop-number.list.items c.push.new.self.items c.loop-number.number c.in_ok-push.ensures.items c.loop-number.invariant.all;
  only = numbers_only c.loop-number.list.items c.push.new.self.items c.loop-number.number c.in_ok-push.ensures.items c.loop-number.invariant.only;
}

pub returns-clause-below : goal.returns-clause-below
returns-clause-below c = λ k h. let less = c.loop-number.invariant.only k h in omega (arith, less, c.loop-number.auto.number-end)
