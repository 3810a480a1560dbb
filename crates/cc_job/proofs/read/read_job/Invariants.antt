use Rattle.std.proofs.Common.{length}
use Rattle.cc_job.proofs.Standing.{Stands}
use Rattle.cc_job.proofs.read.read_job.Given as goal

abbrev pub invariant-loop-rest : goal.invariant-loop-rest
invariant-loop-rest l = Stands l.bytes l.rest l.devices.items l.commands.items l.number

abbrev pub decreases-loop-rest : goal.decreases-loop-rest
decreases-loop-rest l = length l.rest
