use Rattle.std.proofs.Common.{◌≡◌, take, drop}
use Rattle.cc_words.specs.Lines.{text_cut}
use Rattle.cc_words.proofs.Steps.{before_cut}
use Rattle.cc_words.proofs.lines.text_cut.Given as goal

abbrev pub invariant-loop-at : goal.invariant-loop-at
invariant-loop-at l = before_cut (take l.at l.bytes) (text_cut l.left (drop l.at l.bytes)) ≡ text_cut l.count l.bytes
