use Rattle.cc_known.proofs.FillableSets.{AreFillable}
use Rattle.cc_known.proofs.fillable.fillable.Given as goal

abbrev pub invariant-loop-elem : goal.invariant-loop-elem
invariant-loop-elem l = AreFillable l.closed l.yielded l.kept
