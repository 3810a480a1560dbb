use Rattle.std.proofs.Common.{◌≡◌, ℕ, ◌≤◌, ◌+◌, arith, length-take}
use Rattle.cc_io.proofs.Fronts.{takes_both}
use Rattle.cc_io.proofs.whole.read_all.Goals as goal

pub returns-then-len-read-clause-taken : goal.returns-then-len-read-clause-taken
returns-then-len-read-clause-taken g c =
    takes_both (λ n. n ≡ c.args.limit + 1) _ _ _ c.loop-read.bytes.items _ c.loop-read.invariant.consumed c.in-Ok.ensures.bytes.0
    (omega (arith, c.in-Ok.ensures.bound.0, c.in-Ok.ensures.bound.1, c.loop-read.bytes.ok.0, length-take {A = ℕ}))

pub returns-in-Err-extend_from_slice-clause-taken : goal.returns-in-Err-extend_from_slice-clause-taken
returns-in-Err-extend_from_slice-clause-taken g c =
    takes_both (λ n. n ≤ c.args.limit) _ _ _ c.loop-read.bytes.items _ c.loop-read.invariant.consumed c.in-Ok.ensures.bytes.0
    (omega (arith, c.in-Ok.ensures.bound.0, c.in-Ok.ensures.bound.1, c.loop-read.bytes.ok.0, length-take {A = ℕ}))
