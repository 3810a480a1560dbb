use Rattle.std.proofs.Common.{◌≡◌, ◌≤◌, ◌+◌, ◌<◌, if◌then◌else◌, Bool, false, None, length, ap, ◌∙◌, sym, subst, arith}
use Rattle.std.proofs.lemmas.List.{get_or_read}
use Rattle.std.specs.Option.{is_some}
use Rattle.cc_judge.specs.Kept.{judgements_of}
use Rattle.cc_judge.specs.Plans.{plan_at, is_stale_at}
use Rattle.cc_judge.proofs.PutPlans.{plans_put}
use Rattle.cc_judge.proofs.judging.plan_place.Goals as goal

pub returns-then-is_some-clause-ticks : goal.returns-then-is_some-clause-ticks
returns-then-is_some-clause-ticks g c = λ all are. omega arith

pub returns-then-is_some-clause-ok : goal.returns-then-is_some-clause-ok
returns-then-is_some-clause-ok g c =
    let within : c.args.place < length c.args.plans.now.items = omega (arith, c.requires.count, c.requires.within) in
    record {
      plans = c.requires.plans;
      planned =
          ap is_some (sym (get_or_read c.args.plans.now.items c.args.place c.index.result.now within c.index.ensures
          None))
          ∙ sym c.is_some.ensures ∙ c.if-is_some.true;
      stay = λ other planned. planned;
    }

pub returns-in_err-plan-clause-ticks : goal.returns-in_err-plan-clause-ticks
returns-in_err-plan-clause-ticks g c =
    λ all are.
    let within : c.args.place < length c.args.plans.now.items = omega (arith, c.requires.count, c.requires.within) in
    let waits : is_some (plan_at c.args.plans.now.items c.args.place) ≡ false =
    ap is_some (sym (get_or_read c.args.plans.now.items c.args.place c.index.result.now within c.index.ensures None))
    ∙ sym c.is_some.ensures ∙ c.if-is_some.false in
    let P : Bool → Type 0 = λ b. c.plan_new.new.steps ≤ c.args.steps.now + (if b then 0 else (if is_stale_at
    (judgements_of c.args.last.now) c.args.texts.now all c.args.place then 1 else 0)) in
    subst P (sym waits) (c.plan_new.ensures.ticks all are)

pub returns-clause-ticks : goal.returns-clause-ticks
returns-clause-ticks g c =
    λ all are.
    let within : c.args.place < length c.args.plans.now.items = omega (arith, c.requires.count, c.requires.within) in
    let waits : is_some (plan_at c.args.plans.now.items c.args.place) ≡ false =
    ap is_some (sym (get_or_read c.args.plans.now.items c.args.place c.index.result.now within c.index.ensures None))
    ∙ sym c.is_some.ensures ∙ c.if-is_some.false in
    let P : Bool → Type 0 = λ b. c.plan_new.new.steps ≤ c.args.steps.now + (if b then 0 else (if is_stale_at
    (judgements_of c.args.last.now) c.args.texts.now all c.args.place then 1 else 0)) in
    subst P (sym waits) (c.plan_new.ensures.ticks all are)

pub returns-clause-ok : goal.returns-clause-ok
returns-clause-ok g c =
    plans_put c.args.devices.now c.args.texts.now (judgements_of c.args.last.now) c.args.place c.in_ok-plan.plan
    c.args.plans.now.items c.put_plan.new.plans.items c.requires.count c.requires.within c.requires.plans
    c.in_ok-plan.ensures.plan c.put_plan.ensures
