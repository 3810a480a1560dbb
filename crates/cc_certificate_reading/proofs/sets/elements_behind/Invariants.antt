use Rattle.std.proofs.Common.{◌≡◌, ◌∷◌, drop, map, option_map}
use Rattle.cc_words.specs.Words.{all_of}
use Rattle.cc_words.proofs.Numbers.{before_all}
use Rattle.cc_certificate_text.specs.Reading.{other_of}
use Rattle.cc_certificate_reading.specs.Numberings.{locals_of}
use Rattle.cc_certificate_reading.proofs.sets.elements_behind.Given as goal

abbrev pub invariant-loop-word : goal.invariant-loop-word
invariant-loop-word l =
    before_all l.elems.items (all_of (other_of (locals_of l.locals) l.names l.depth) (map (λ it. it.now) (drop l.word-index l.words)))
    ≡ option_map (λ others. l.fn.first ∷ others) (all_of (other_of (locals_of l.locals) l.names l.depth) (map (λ it. it.now) l.words))
