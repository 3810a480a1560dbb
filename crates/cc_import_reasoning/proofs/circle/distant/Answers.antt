use Rattle.cc_judge.specs.KnownGraphs.{entries_of}
use Rattle.cc_import_reasoning.proofs.MarkedNames.{not_distant}
use Rattle.cc_import_reasoning.proofs.circle.distant.Goals as goal

pub returns-then-not-is_distant : goal.returns-then-not-is_distant
returns-then-not-is_distant c =
    not_distant (entries_of c.args.modules.now) c.requires.ordered c.args.distances.now c.args.links c.in-Some.at c.args.name.now c.in-Some.ensures
    (λ is. let yes = c.is_distant.ensures.1 is in let no = c.if-not-is_distant.true in cc)
