use Rattle.std.proofs.Common.{sym, arith, length, subst, ◌≡◌, take}
use Rattle.std.proofs.lemmas.List.{take_all}
use Rattle.cc_judge.specs.declared.plans.Plan.{Plan}
use Rattle.cc_judge.specs.Carrying.{left_by}
use Rattle.cc_judge.specs.Kept.{judgements_of}
use Rattle.cc_judge.proofs.CarryLemmas.{judgements_length}
use Rattle.cc_judge.proofs.carrying.carry.Goals as goal

pub returns-in-Judge-clause-left : goal.returns-in-Judge-clause-left
returns-in-Judge-clause-left c =
    let old = c.args.old.now in
    let P : Plan → Type 0 = λ p. judgements_of old ≡ take (left_by (length old.verdicts.items) p) (judgements_of old) in
    subst P (sym c.in-Judge.is)
    (sym (take_all (length old.verdicts.items) (judgements_of old)
    (omega (arith, judgements_length old.verdicts.items old.grounds.items c.requires.old_each))))
