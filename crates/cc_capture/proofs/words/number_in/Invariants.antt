use Rattle.std.proofs.Common.{◌≡◌, ◌<◌, length, slice_get}
use Rattle.cc_capture.specs.Words.{IsBounded, word_numbers}
use Rattle.cc_capture.proofs.words.number_in.Given as goal

abbrev pub invariant-loop-before : goal.invariant-loop-before
invariant-loop-before l =
    record {
      bounded : IsBounded l.left;
      within : l.before < length (word_numbers l.left);
      same : slice_get (word_numbers l.left) l.before ≡ slice_get (word_numbers l.fn.word) l.index;
    }

abbrev pub decreases-loop-before : goal.decreases-loop-before
decreases-loop-before l = l.before
