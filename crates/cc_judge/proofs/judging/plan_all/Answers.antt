use Rattle.std.proofs.Common.{◌≡◌, ℕ, List, get_or, sym, subst, arith}
use Rattle.std.proofs.lemmas.List.{get_or_default}
use Rattle.cc_judge.specs.Dependencies.{IsSchedule}
use Rattle.cc_judge.specs.Kept.{judgements_of}
use Rattle.cc_judge.proofs.PlaceSchedules.{asks_planned}
use Rattle.cc_judge.proofs.PutPlans.{none_right}
use Rattle.cc_judge.proofs.RightPlans.{plans_counted}
use Rattle.cc_judge.proofs.StillFound.{nothing_known}
use Rattle.cc_judge.proofs.ScheduledPlans.{scheduled_at, planned_more, all_places_planned, ticks_more, ticks_enough}
use Rattle.cc_judge.proofs.ScheduledPlans.{ticks_all}
use Rattle.cc_judge.proofs.judging.plan_all.Goals as goal

pub loop-place-init : goal.loop-place-init
loop-place-init g c =
    let are = none_right c.args.devices.now c.args.texts.now (judgements_of c.args.last.now) c.in_ok-plans.plans.items
    c.in_ok-plans.ensures in
    record {
      count = plans_counted c.args.devices.now c.args.texts.now (judgements_of c.args.last.now)
          c.in_ok-plans.plans.items c.requires.differ c.requires.present are;
      right = are;
      known = nothing_known c.args.devices.now c.args.texts.now (judgements_of c.args.last.now)
          c.in_ok-known.known.items c.in_ok-known.ensures;
      planned = λ place among. absurd among;
      ticks = λ all is. omega arith;
    }

pub plan_place-requires-clause-within : goal.plan_place-requires-clause-within
plan_place-requires-clause-within g c =
    let texts = c.args.texts.now in
    let items = c.deref-place-items.result.now in
    let S : List ℕ → Type 0 = λ ps. IsSchedule texts ps in
    let schedule = subst S (sym c.deref-place-items.ensures.value) c.requires.found.schedule in
    let i : ℕ = c.loop-place.place-index in
    let place : ℕ = get_or items i 0 in
    let is : place ≡ get_or items i place = get_or_default items i 0 place c.loop-place-test.true in
    let within = scheduled_at texts c.requires.present items schedule i place c.loop-place-test.true is in
    within

pub plan_place-requires-clause-asked : goal.plan_place-requires-clause-asked
plan_place-requires-clause-asked g c =
    let texts = c.args.texts.now in
    let items = c.deref-place-items.result.now in
    let S : List ℕ → Type 0 = λ ps. IsSchedule texts ps in
    let schedule = subst S (sym c.deref-place-items.ensures.value) c.requires.found.schedule in
    let i : ℕ = c.loop-place.place-index in
    let place : ℕ = get_or items i 0 in
    let is : place ≡ get_or items i place = get_or_default items i 0 place c.loop-place-test.true in
    let within = scheduled_at texts c.requires.present items schedule i place c.loop-place-test.true is in
    asks_planned texts c.requires.present items schedule c.loop-place.plans.items i place c.loop-place-test.true is within
    c.loop-place.invariant.planned

pub loop-place-preserved : goal.loop-place-preserved
loop-place-preserved g c =
    let texts = c.args.texts.now in
    let items = c.deref-place-items.result.now in
    let S : List ℕ → Type 0 = λ ps. IsSchedule texts ps in
    let schedule = subst S (sym c.deref-place-items.ensures.value) c.requires.found.schedule in
    let i : ℕ = c.loop-place.place-index in
    let place : ℕ = get_or items i 0 in
    let is : place ≡ get_or items i place = get_or_default items i 0 place c.loop-place-test.true in
    let within = scheduled_at texts c.requires.present items schedule i place c.loop-place-test.true is in
    let last = judgements_of c.args.last.now in
    let made = c.in_ok-plan_place.ensures.ok in
    record {
      count = plans_counted c.args.devices.now texts last c.plan_place.new.plans.items c.requires.differ
          c.requires.present made.plans;
      right = made.plans;
      known = c.in_ok-plan_place.ensures.known;
      planned = planned_more items i place c.loop-place.plans.items c.plan_place.new.plans.items c.loop-place-test.true
          is c.loop-place.invariant.planned made.stay made.planned;
      ticks = λ all are.
          ticks_more last texts all c.args.steps.now c.loop-place.steps c.plan_place.new.steps
          c.loop-place.plans.items c.plan_place.new.plans.items place within made.stay made.planned
          (c.loop-place.invariant.ticks all are) (c.in_ok-plan_place.ensures.ticks all are);
    }

pub returns-in_err-plan_place-clause-ticks : goal.returns-in_err-plan_place-clause-ticks
returns-in_err-plan_place-clause-ticks g c =
    let texts = c.args.texts.now in
    let items = c.deref-place-items.result.now in
    let S : List ℕ → Type 0 = λ ps. IsSchedule texts ps in
    let schedule = subst S (sym c.deref-place-items.ensures.value) c.requires.found.schedule in
    let i : ℕ = c.loop-place.place-index in
    let place : ℕ = get_or items i 0 in
    let is : place ≡ get_or items i place = get_or_default items i 0 place c.loop-place-test.true in
    let within = scheduled_at texts c.requires.present items schedule i place c.loop-place-test.true is in
    λ all are.
    ticks_enough (judgements_of c.args.last.now) texts all c.args.steps.now c.loop-place.steps c.plan_place.new.steps
    c.loop-place.plans.items place within (c.loop-place.invariant.ticks all are) (c.plan_place.ensures.ticks all are)

pub returns-clause-ticks : goal.returns-clause-ticks
returns-clause-ticks g c =
    λ all are.
    ticks_all (judgements_of c.args.last.now) c.args.texts.now all c.args.steps.now c.loop-place.steps
    c.loop-place.plans.items (c.loop-place.invariant.ticks all are)

pub returns-clause-plans : goal.returns-clause-plans
returns-clause-plans g c =
    let texts = c.args.texts.now in
    let items = c.deref-place-items.result.now in
    let S : List ℕ → Type 0 = λ ps. IsSchedule texts ps in
    let schedule = subst S (sym c.deref-place-items.ensures.value) c.requires.found.schedule in
    record {
      right = c.loop-place.invariant.right;
      all = all_places_planned texts c.requires.present items schedule c.loop-place.place-index
          c.loop-place.plans.items c.loop-place-test.false c.loop-place.invariant.planned;
    }
