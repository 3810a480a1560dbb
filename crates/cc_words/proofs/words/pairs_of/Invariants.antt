use Rattle.std.proofs.Common.{◌≡◌, drop, map}
use Rattle.cc_words.specs.Words.{all_of, pair_of}
use Rattle.cc_words.proofs.Numbers.{before_all}
use Rattle.cc_words.proofs.words.pairs_of.Given as goal

abbrev pub invariant-loop-word : goal.invariant-loop-word
invariant-loop-word l =
    before_all l.pairs.items (all_of pair_of (map (λ it. it.now) (drop l.word-index l.words))) ≡ all_of pair_of (map (λ it. it.now) l.words)
