use Rattle.std.proofs.Common.{◌≡◌, ◌+◌, length}
use Rattle.cc_words.specs.Lines.{lines_of}
use Rattle.cc_words.proofs.lines.line_count.Given as goal

abbrev pub invariant-loop-rest : goal.invariant-loop-rest
invariant-loop-rest l = l.count + length (lines_of l.rest) ≡ length (lines_of l.bytes)

abbrev pub decreases-loop-rest : goal.decreases-loop-rest
decreases-loop-rest l = length l.rest
