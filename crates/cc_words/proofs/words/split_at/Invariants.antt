use Rattle.std.proofs.Common.{◌≡◌, ◌++◌, length, map}
use Rattle.cc_words.specs.Words.{split_at}
use Rattle.cc_words.proofs.words.split_at.Given as goal

abbrev pub invariant-loop-word : goal.invariant-loop-word
invariant-loop-word l = map (λ word. word.now) l.words.items ++ split_at l.separator l.rest ≡ split_at l.separator l.bytes

abbrev pub decreases-loop-word : goal.decreases-loop-word
decreases-loop-word l = length l.rest
