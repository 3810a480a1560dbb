use Rattle.std.proofs.Common.{length}
use Rattle.cc_core.specs.TermViews.{type_of}
use Rattle.cc_vouch.specs.BindViews.{SignsAs}
use Rattle.cc_vouch.proofs.signature.signature.Given as goal

abbrev pub invariant-loop-rest : goal.invariant-loop-rest
invariant-loop-rest l = SignsAs l.devices l.rest (type_of l.left) l.binds (type_of l.ty)

abbrev pub decreases-loop-rest : goal.decreases-loop-rest
decreases-loop-rest l = length l.rest
