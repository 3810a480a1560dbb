use Rattle.std.proofs.Common.{◌≡◌, ◌∙◌, List, ap, sym, subst, length, map, Some, arith}
use Rattle.cc_judge.specs.declared.last.Last.{Last}
use Rattle.cc_judge.specs.Carrying.{AreReady, HasRoom}
use Rattle.cc_judge.specs.Judgements.{Judgement, AreJudged}
use Rattle.cc_judge.specs.Kept.{judgements_from, judgements_of}
use Rattle.cc_judge.specs.Plans.{planned}
use Rattle.cc_judge.specs.Settled.{AreSettled}
use Rattle.cc_verdicts.proofs.PresentLaws.{present_verdicts_exist}
use Rattle.cc_judge.proofs.AllPlanned.{plans_ready, carried_judgements, judgements_judged, names_sorted}
use Rattle.cc_judge.proofs.SettledJudgements.{judgements_settled}
use Rattle.cc_judge.proofs.judging.judge_all.Goals as goal

pub returns-in_err-plans-clause-ticks : goal.returns-in_err-plans-clause-ticks
returns-in_err-plans-clause-ticks g c = c.plan_all.ensures.ticks

pub carry_out-requires-clause-ready : goal.carry_out-requires-clause-ready
carry_out-requires-clause-ready g c =
    let last = c.args.last.now in
    let P : Last → Type 0 = λ l. AreReady c.in_ok-plans.plans.items (length l.verdicts.items) in
    subst P (sym c.replace-old.ensures.value)
    (plans_ready c.args.devices.now c.args.texts.now c.requires.differ c.requires.present last.verdicts.items
    last.grounds.items c.requires.kept.names c.requires.kept.one_each c.in_ok-plans.plans.items
    c.in_ok-plans.ensures.plans)

pub carry_out-requires-clause-empty : goal.carry_out-requires-clause-empty
carry_out-requires-clause-empty g c =
    ap judgements_of c.replace-old.ensures.after
    ∙ ap (λ vs. judgements_from vs c.in_ok-grounds.grounds.items) c.in_ok-verdicts.ensures.items

pub carry_out-requires-clause-room : goal.carry_out-requires-clause-room
carry_out-requires-clause-room g c =
    let P : Last → Type 0 = λ l. HasRoom (length c.in_ok-plans.plans.items) l in
    subst P (sym c.replace-old.ensures.after) (
      omega (
        arith,
        c.in_ok-verdicts.ensures.len,
        c.in_ok-verdicts.ensures.capacity,
        c.len.ensures,
        c.in_ok-plans.plans.ok.0,
      ),
      omega (
        arith,
        c.in_ok-grounds.ensures.len,
        c.in_ok-grounds.ensures.capacity,
        c.len-2.ensures,
        c.in_ok-plans.plans.ok.0,
      ),
    )

pub returns-clause-current : goal.returns-clause-current
returns-clause-current g c =
    let last = c.args.last.now in
    let devices = c.args.devices.now in
    let texts = c.args.texts.now in
    let (all, are) = present_verdicts_exist devices texts c.requires.differ c.requires.present in
    let C : Last → Type 0 = λ l. map Some (judgements_of c.carry_out.new.new)
    ≡ map (planned (judgements_of l)) c.in_ok-plans.plans.items in (
      all,
      are,
      carried_judgements devices texts c.requires.differ c.requires.present last.verdicts.items last.grounds.items
          c.requires.kept.names c.requires.kept.one_each c.in_ok-plans.plans.items c.in_ok-plans.ensures.plans
          (judgements_of c.carry_out.new.new)
          (subst C c.replace-old.ensures.value c.carry_out.ensures.carried),
    )

pub returns-clause-kept : goal.returns-clause-kept
returns-clause-kept g c =
    let last = c.args.last.now in
    let devices = c.args.devices.now in
    let texts = c.args.texts.now in
    let new = c.carry_out.new.new in
    let (all, are) = present_verdicts_exist devices texts c.requires.differ c.requires.present in
    let C : Last → Type 0 = λ l. map Some (judgements_of c.carry_out.new.new)
    ≡ map (planned (judgements_of l)) c.in_ok-plans.plans.items in
    let same =
    carried_judgements devices texts c.requires.differ c.requires.present last.verdicts.items last.grounds.items
    c.requires.kept.names c.requires.kept.one_each c.in_ok-plans.plans.items c.in_ok-plans.ensures.plans
    (judgements_of new) (subst C c.replace-old.ensures.value c.carry_out.ensures.carried) in
    let J : List Judgement → Type 0 = λ js. AreJudged devices js in
    record {
      names = names_sorted texts all new.verdicts.items new.grounds.items c.requires.present
          c.carry_out.ensures.one_each same;
      one_each = c.carry_out.ensures.one_each;
      judged = subst J (sym same) (judgements_judged devices texts all c.requires.differ c.requires.present are);
      settled = subst AreSettled (sym same) (judgements_settled texts all);
    }
