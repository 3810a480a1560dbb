use Rattle.std.proofs.Common.{ℕ, List, Result, subst, sym}
use Rattle.std.specs.Prelude.{IsTrue}
use Rattle.cc_base.specs.declared.code.Code.{Code}
use Rattle.cc_base.specs.declared.device.DeviceDecl.{DeviceDecl}
use Rattle.cc_judge.specs.Kept.{judgements_of, IsKept}
use Rattle.cc_verdicts.specs.ModuleVerdicts.{ModuleVerdict}
use Rattle.cc_verdicts.specs.PresentTexts.{AreVerdicts}
use Rattle.cc_verdicts.specs.StandingDefinitions.{Standing, standing_in}
use Rattle.cc_session.specs.Sessions.{SessionState}
use Rattle.cc_session.specs.StandingAnswers.{AnswersStanding, standing_last}
use Rattle.cc_session.proofs.StandingFacts.{stands_by_last, accepted_answer}
use Rattle.cc_session.proofs.session.Session.standing.Goals as goal

pub standing_in-requires : goal.standing_in-requires
standing_in-requires c =
    let K : List DeviceDecl → Type 0 = λ ds. IsKept ds c.self.inside.last in
    subst K (sym c.as_slice.ensures.value) c.self.invariant.kept

pub returns-clause-answer : goal.returns-clause-answer
returns-clause-answer c =
    let old = c.self.inside in
    let T : SessionState → Type 0 = λ s. IsTrue s.checked in
    let up = c.self.invariant.current (subst T (sym c.self.view_is) c.requires) in
    let D : List DeviceDecl → Type 0 = λ ds. AnswersStanding ds
    (standing_last (judgements_of old.last) c.args.module.now c.args.def.now) c.standing_in.result in
    let answers = subst D c.as_slice.ensures.value c.standing_in.ensures in
    let P : SessionState → Type 0 = λ s. (all : List ℕ → ModuleVerdict) → AreVerdicts s.devices s.present all
    → AnswersStanding s.devices (standing_in s.present all c.args.module.now c.args.def.now) c.standing_in.result in
    subst P c.self.view_is
    (λ all are.
    subst (λ (r : Result Standing Code). AnswersStanding old.devices.items r c.standing_in.result)
    (stands_by_last old.devices.items old.present.items (judgements_of old.last) c.self.invariant.present up all are
    c.args.module.now c.args.def.now) answers)

pub returns-clause-accepted : goal.returns-clause-accepted
returns-clause-accepted c =
    let old = c.self.inside in
    let T : SessionState → Type 0 = λ s. IsTrue s.checked in
    let up = c.self.invariant.current (subst T (sym c.self.view_is) c.requires) in
    let D : List DeviceDecl → Type 0 = λ ds. AnswersStanding ds
    (standing_last (judgements_of old.last) c.args.module.now c.args.def.now) c.standing_in.result in
    let answers = subst D c.as_slice.ensures.value c.standing_in.ensures in
    accepted_answer old.devices.items old.present.items (judgements_of old.last) c.self.invariant.differ
    c.self.invariant.present up c.args.module.now c.args.def.now c.standing_in.result answers
