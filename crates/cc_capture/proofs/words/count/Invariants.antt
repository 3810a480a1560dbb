use Rattle.std.proofs.Common.{◌≡◌, ◌+◌, length, drop}
use Rattle.cc_capture.specs.Words.{numbers}
use Rattle.cc_capture.proofs.words.count.Given as goal

abbrev pub invariant-loop-word : goal.invariant-loop-word
invariant-loop-word l = l.count + length (numbers (drop l.word-index l.items)) ≡ length (numbers l.items)
