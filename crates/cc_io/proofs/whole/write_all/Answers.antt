use Rattle.std.proofs.Common.{ℕ, arith, length-take, length-drop}
use Rattle.cc_io.proofs.Fronts.{front_appended}
use Rattle.cc_io.proofs.whole.write_all.Goals as goal

pub loop-at-preserved : goal.loop-at-preserved
loop-at-preserved g c =
    let some = c.in-Ok.ensures.taken in
    record {
      in_range = omega (arith, some.0, length-take {A = ℕ}, length-drop {A = ℕ});
      appended = front_appended _ _ _ c.args.bytes.now c.loop-at.at c.in-Ok.taken c.loop-at.invariant.appended some.2;
      no_fault = cc (c.in-Ok.ensures.cause);
    }
