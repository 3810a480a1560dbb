use Rattle.std.proofs.Common.{◌≡◌, take, drop}
use Rattle.cc_certificate_text.specs.Reading.{word_at}
use Rattle.cc_certificate_reading.proofs.WordTurns.{before_word}
use Rattle.cc_certificate_reading.proofs.words.word_at.Given as goal

abbrev pub invariant-loop-at : goal.invariant-loop-at
invariant-loop-at l = before_word (take l.at l.bytes) (word_at (drop l.at l.bytes)) ≡ word_at l.bytes
