use Rattle.std.proofs.Common.{vec_len}
use Rattle.cc_machine.proofs.Repeating.{Unwinding}
use Rattle.cc_machine.proofs.parts.Parts.unwind.Given as goal

abbrev pub invariant-loop-frame : goal.invariant-loop-frame
invariant-loop-frame l = Unwinding l.label l.fn.self l.self

abbrev pub decreases-loop-frame : goal.decreases-loop-frame
decreases-loop-frame l = vec_len l.self.frames
