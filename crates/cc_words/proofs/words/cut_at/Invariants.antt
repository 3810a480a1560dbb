use Rattle.std.proofs.Common.{◌≡◌, take, drop}
use Rattle.cc_words.specs.Words.{cut_at}
use Rattle.cc_words.proofs.Steps.{before_cut}
use Rattle.cc_words.proofs.words.cut_at.Given as goal

abbrev pub invariant-loop-at : goal.invariant-loop-at
invariant-loop-at l = before_cut (take l.at l.bytes) (cut_at l.separator (drop l.at l.bytes)) ≡ cut_at l.separator l.bytes
