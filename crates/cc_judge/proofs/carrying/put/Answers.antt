use Rattle.std.proofs.Common.{ap, ◌∙◌}
use Rattle.cc_judge.specs.Kept.{judgements_from}
use Rattle.cc_judge.proofs.CarryLemmas.{judgements_push}
use Rattle.cc_judge.proofs.carrying.put.Goals as goal

pub returns-clause-judged : goal.returns-clause-judged
returns-clause-judged c =
    ap (λ vs. judgements_from vs c.push_reserved-2.new.self.items) c.push_reserved.ensures.items
    ∙ ap (judgements_from _) c.push_reserved-2.ensures.items
    ∙ judgements_push c.args.new.now.verdicts.items c.args.new.now.grounds.items c.args.entry c.args.grounds c.requires.one_each
