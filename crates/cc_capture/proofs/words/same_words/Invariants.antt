use Rattle.std.proofs.Common.{◌≡◌, drop}
use Rattle.cc_capture.specs.Words.{same_words}
use Rattle.cc_capture.proofs.words.same_words.Given as goal

abbrev pub invariant-loop-at : goal.invariant-loop-at
invariant-loop-at l = same_words (drop l.at l.left) (drop l.at l.right) ≡ same_words l.left l.right
