use Rattle.std.proofs.Common.{ap, ◌∙◌, reverse}
use Rattle.cc_judge.specs.Kept.{judgements_from}
use Rattle.cc_judge.proofs.CarryLemmas.{judgements_reverse}
use Rattle.cc_judge.proofs.carrying.turn_round.Goals as goal

pub returns-clause-judged : goal.returns-clause-judged
returns-clause-judged c =
    ap (λ vs. judgements_from vs c.reverse-2.new.self.items) c.reverse.ensures.items
    ∙ ap (judgements_from (reverse c.args.new.now.verdicts.items)) c.reverse-2.ensures.items
    ∙ judgements_reverse c.args.new.now.verdicts.items c.args.new.now.grounds.items c.requires
