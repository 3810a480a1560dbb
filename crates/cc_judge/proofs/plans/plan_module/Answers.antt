use Rattle.std.proofs.Common.{◌≡◌, ◌≤◌, ◌+◌, if◌then◌else◌, ℕ, Bool, true, List, Option, map, sym, subst, arith}
use Rattle.std.specs.Prelude.{MatchOption, IsTrue}
use Rattle.std.proofs.lemmas.Result.{IfOk-weaker}
use Rattle.cc_module.specs.Findings.{finding_of}
use Rattle.cc_module.specs.declared.finding.Finding.{Finding}
use Rattle.cc_judge.specs.Judgements.{is_stale}
use Rattle.cc_judge.specs.Kept.{judgements_of}
use Rattle.cc_judge.specs.Plans.{IsJudgedAt}
use Rattle.cc_judge.proofs.RightPlans.{kept_plan}
use Rattle.cc_judge.proofs.plans.plan_module.Goals as goal

pub kept_place-requires-clause-found : goal.kept_place-requires-clause-found
kept_place-requires-clause-found g c = λ all are. rw c.as_slice.ensures.value (c.requires.found all are)

pub returns-in-Some-clause-plan : goal.returns-in-Some-clause-plan
returns-in-Some-clause-plan g c =
    let last = judgements_of c.args.last.now in
    let P : List Finding → Type 0 = λ fs. IsJudgedAt last c.args.name.now c.args.text.now (map finding_of fs)
    c.in-Some.at in
    let M : Option ℕ → Type 0 = λ o. MatchOption o
    (IsTrue (is_stale last c.args.name.now c.args.text.now (map finding_of c.as_slice.result.now)))
    (IsJudgedAt last c.args.name.now c.args.text.now (map finding_of c.as_slice.result.now)) in
    kept_plan c.args.devices.now last c.args.name.now c.args.text.now (map finding_of c.args.findings.items)
    c.in-Some.at c.requires.kept.judged
    (subst P c.as_slice.ensures.value (subst M c.in-Some.is c.in_ok-kept.ensures.place))

pub returns-in-None-clause-ticks : goal.returns-in-None-clause-ticks
returns-in-None-clause-ticks g c =
    let last = judgements_of c.args.last.now in
    let P : List Finding → Type 0 = λ fs. is_stale last c.args.name.now c.args.text.now (map finding_of fs) ≡ true in
    let M : Option ℕ → Type 0 = λ o. MatchOption o
    (IsTrue (is_stale last c.args.name.now c.args.text.now (map finding_of c.as_slice.result.now)))
    (IsJudgedAt last c.args.name.now c.args.text.now (map finding_of c.as_slice.result.now)) in
    let stale = subst P c.as_slice.ensures.value (subst M c.in-None.is c.in_ok-kept.ensures.place) in
    let Q : Bool → Type 0 = λ b. c.judge.new.steps ≤ c.args.steps.now + (if b then 1 else 0) in
    subst Q (sym stale) (omega (arith, c.judge.ensures.tick))

pub returns-in-None-clause-plan : goal.returns-in-None-clause-plan
returns-in-None-clause-plan g c =
    IfOk-weaker c.judge.result _ _ (λ plan is. is (judgements_of c.args.last.now)) c.judge.ensures.plan
