use Rattle.std.proofs.Common.{rules, refl}
use Rattle.cc_sets.proofs.MarkedWords.{last_bit}
use Rattle.cc_sets.proofs.marks.last_in.Goals as goal

pub returns-clause-marked : goal.returns-clause-marked
returns-clause-marked c = (last_bit c.args.at c.args.word _ (search rules) c.requires.some refl).1

pub returns-clause-last : goal.returns-clause-last
returns-clause-last c = (last_bit c.args.at c.args.word _ (search rules) c.requires.some refl).2
