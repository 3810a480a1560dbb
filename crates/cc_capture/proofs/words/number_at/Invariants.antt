use Rattle.std.proofs.Common.{◌≡◌, drop, slice_get}
use Rattle.cc_capture.specs.Words.{numbers}
use Rattle.cc_capture.proofs.words.number_at.Given as goal

abbrev pub invariant-loop-word : goal.invariant-loop-word
invariant-loop-word l = slice_get (numbers (drop l.word-index l.items)) l.before ≡ slice_get (numbers l.items) l.index
