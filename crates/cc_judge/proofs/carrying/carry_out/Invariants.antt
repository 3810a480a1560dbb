use Rattle.std.proofs.Common.{◌≡◌, ◌++◌, length, map, reverse, Some}
use Rattle.cc_judge.specs.Carrying.{HasOneEach, HasRoom, AreReady}
use Rattle.cc_judge.specs.Kept.{judgements_of}
use Rattle.cc_judge.specs.Plans.{planned}
use Rattle.cc_judge.proofs.carrying.carry_out.Given as goal

abbrev pub invariant-loop-next : goal.invariant-loop-next
invariant-loop-next l =
    record {
      ready : AreReady l.plans.items (length l.old.verdicts.items);
      old_each : HasOneEach l.old;
      one_each : HasOneEach l.new;
      room : HasRoom (length l.plans.items) l.new;
      carried : map (planned (judgements_of l.old)) l.plans.items ++ reverse (map Some (judgements_of l.new))
          ≡ map (planned (judgements_of l.initial.old)) l.initial.plans.items;
    }

abbrev pub decreases-loop-next : goal.decreases-loop-next
decreases-loop-next l = length l.plans.items
