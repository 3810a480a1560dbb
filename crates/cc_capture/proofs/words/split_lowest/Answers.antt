use Rattle.cc_capture.proofs.WordElements.{word_numbers-lowest, lowest-within, IsBounded-others}
use Rattle.cc_capture.proofs.words.split_lowest.Goals as goal

pub returns-clause-numbers : goal.returns-clause-numbers
returns-clause-numbers c =
    rw (c.from.ensures, c.from-2.ensures) (word_numbers-lowest c.args.word c.requires)

pub returns-clause-within : goal.returns-clause-within
returns-clause-within c = rw (c.from.ensures, c.from-2.ensures) (lowest-within c.args.word c.requires)

pub returns-clause-others : goal.returns-clause-others
returns-clause-others c = IsBounded-others c.args.word c.requires
