use Rattle.cc_known.specs.ComparedPairs.{is_compared}
use Rattle.cc_known.proofs.EndedLists.{passes-set}
use Rattle.cc_known.proofs.compared.ComparedPairs.put.Goals as goal

pub returns : goal.returns
returns c = λ steps log all is.
    passes-set (is_compared steps log) c.args.self.now.pairs.items c.args.place c.args.pair all is
