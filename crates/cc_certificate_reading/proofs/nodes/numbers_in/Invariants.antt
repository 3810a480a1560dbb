use Rattle.std.proofs.Common.{◌≡◌, drop, map}
use Rattle.cc_words.specs.Words.{all_of, number_of}
use Rattle.cc_words.proofs.Numbers.{before_all}
use Rattle.cc_certificate_reading.proofs.nodes.numbers_in.Given as goal

abbrev pub invariant-loop-word : goal.invariant-loop-word
invariant-loop-word l =
    before_all l.numbers.items (all_of (number_of 4294967295) (map (λ it. it.now) (drop l.word-index l.words))) ≡ all_of (number_of 4294967295) (map (λ it. it.now) l.words)
