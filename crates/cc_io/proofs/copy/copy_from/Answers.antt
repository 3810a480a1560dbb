use Rattle.std.proofs.Common.{◌≤◌, ◌+◌, length, arith}
use Rattle.cc_io.proofs.Fronts.{front_copied}
use Rattle.cc_io.proofs.copy.copy_from.Goals as goal

pub returns-clause-copied : goal.returns-clause-copied
returns-clause-copied c =
    let inside : c.args.at + c.min-count.result ≤ length c.args.bytes.now = omega arith in
    rw c.copy_from_slice.ensures.after (front_copied c.args.bytes.now _ c.args.at c.min-count.result inside)
