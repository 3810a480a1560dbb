-- Going along a word.
use Rattle.std.proofs.Common.{List, ◌++◌, ℕ}

-- the bytes before the word
abbrev pub before_word : List ℕ → List ℕ × List ℕ → List ℕ × List ℕ
before_word front cut = (front ++ cut.0, cut.1)
