use Rattle.std.proofs.Common.{◌≤◌, ◌+◌, List, subst}
use Rattle.cc_base.specs.declared.device.DeviceDecl.{DeviceDecl}
use Rattle.cc_judge.specs.Judgements.{stale_count}
use Rattle.cc_judge.specs.Kept.{judgements_of}
use Rattle.cc_verdicts.specs.PresentTexts.{Texts, AreVerdicts}
use Rattle.cc_session.specs.Sessions.{SessionState}
use Rattle.cc_session.proofs.session.Session.check.Goals as goal

pub returns-in_err-judge_all-clause-ticks : goal.returns-in_err-judge_all-clause-ticks
returns-in_err-judge_all-clause-ticks g c =
    λ all are.
    let T : List DeviceDecl → Texts → Type 0 = λ ds ts. AreVerdicts ds ts all
    → c.judge_all.new.steps ≤ c.args.steps.now + stale_count (judgements_of c.self.inside.last) ts all in
    let P : SessionState → Type 0 = λ s. AreVerdicts s.devices s.present all
    → c.judge_all.new.steps ≤ c.args.steps.now + stale_count s.last s.present all in
    let D : List DeviceDecl → Type 0 = λ ds. T ds c.as_slice-2.result.now in
    let X : Texts → Type 0 = λ ts. T c.self.inside.devices.items ts in
    subst P c.self.view_is
    (subst X c.as_slice-2.ensures.value (subst D c.as_slice.ensures.value (c.judge_all.ensures.ticks all))) are

pub returns-clause-ticks : goal.returns-clause-ticks
returns-clause-ticks g c =
    λ all are.
    let T : List DeviceDecl → Texts → Type 0 = λ ds ts. AreVerdicts ds ts all
    → c.judge_all.new.steps ≤ c.args.steps.now + stale_count (judgements_of c.self.inside.last) ts all in
    let P : SessionState → Type 0 = λ s. AreVerdicts s.devices s.present all
    → c.judge_all.new.steps ≤ c.args.steps.now + stale_count s.last s.present all in
    let D : List DeviceDecl → Type 0 = λ ds. T ds c.as_slice-2.result.now in
    let X : Texts → Type 0 = λ ts. T c.self.inside.devices.items ts in
    subst P c.self.view_is
    (subst X c.as_slice-2.ensures.value (subst D c.as_slice.ensures.value (c.judge_all.ensures.ticks all))) are
