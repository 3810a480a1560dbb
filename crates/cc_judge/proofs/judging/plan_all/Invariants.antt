use Rattle.std.proofs.Common.{◌≡◌, ℕ, ◌+◌, ◌≤◌, List, length, take}
use Rattle.cc_graph.proofs.Paths.{IsAmong}
use Rattle.cc_verdicts.specs.ModuleVerdicts.{ModuleVerdict}
use Rattle.cc_verdicts.specs.PresentTexts.{AreVerdicts}
use Rattle.cc_judge.specs.Kept.{judgements_of}
use Rattle.cc_judge.specs.Plans.{IsPlanned, ArePlans}
use Rattle.cc_judge.specs.Settled.{AreStillFound}
use Rattle.cc_judge.proofs.ScheduledPlans.{done_by}
use Rattle.cc_judge.proofs.judging.plan_all.Given as goal

abbrev pub invariant-loop-place : goal.invariant-loop-place
invariant-loop-place g l =
    record {
      count : length l.plans.items ≡ length l.texts;
      right : ArePlans l.devices l.texts (judgements_of l.last) l.plans.items;
      known : AreStillFound l.devices l.texts (judgements_of l.last) l.known.items;
      planned : (place : ℕ) → IsAmong place (take l.place-index l.place-items) → IsPlanned l.plans.items place;
      ticks : (verdicts : List ℕ → ModuleVerdict) → AreVerdicts l.devices l.texts verdicts
          → l.steps ≤ l.initial.steps + done_by (judgements_of l.last) l.texts verdicts l.plans.items;
    }
