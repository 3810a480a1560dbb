use Rattle.std.proofs.Common.{◌≡◌, List, ℕ, Ok, Err, refl, sym, subst}
use Rattle.cc_base.specs.declared.device.DeviceDecl.{DeviceDecl}
use Rattle.cc_verdicts.specs.ModuleVerdicts as judged
use Rattle.cc_verdicts.specs.PresentTexts.{Texts, AreVerdicts}
use Rattle.cc_module.specs.declared.judgement.ModuleVerdict.{ModuleVerdict}
use Rattle.cc_module.specs.Judgements.{checked_definition_of}
use Rattle.cc_entry_laws.specs.PresentEntries.{started_in}
use Rattle.cc_session.specs.EntryAnswers.{AnswersEntry}
use Rattle.cc_session.specs.EntryParts.{HaveCurrentVerdicts, IsDefinitionOf}
use Rattle.cc_session.specs.Sessions.{SessionState, IsUpToDate}
use Rattle.cc_session.specs.Signatures.{definition_in}
use Rattle.cc_session.proofs.CurrentVerdicts.{current_verdicts, found_definition, refused_definition}
use Rattle.cc_session.proofs.SessionFacts.{state}
use Rattle.cc_session.proofs.session.Session.entry.Goals as goal

pub start_entry-requires-clause-current : goal.start_entry-requires-clause-current
start_entry-requires-clause-current c =
    let old = c.self.inside in
    let session = state old.devices.items old.present.items old.checked old.last in
    let U : SessionState → Type 0 = λ s. IsUpToDate s in
    let up = subst U (sym c.self.view_is) c.definition.ensures.current in
    let D : List DeviceDecl → Type 0 = λ ds. HaveCurrentVerdicts ds old.present.items old.last.verdicts.items in
    let T : Texts → Type 0 = λ ts. HaveCurrentVerdicts c.as_slice.result.now ts old.last.verdicts.items in
    let V : List (List ℕ × ModuleVerdict) → Type 0 = λ vs. HaveCurrentVerdicts c.as_slice.result.now
    c.as_slice-in-Ok.result.now vs in
    subst V (sym c.as_slice-in-Ok-2.ensures.value)
    (subst T (sym c.as_slice-in-Ok.ensures.value)
    (subst D (sym c.as_slice.ensures.value) (current_verdicts session old.last c.self.invariant refl up)))

pub start_entry-requires-clause-found : goal.start_entry-requires-clause-found
start_entry-requires-clause-found c =
    let old = c.self.inside in
    let session = state old.devices.items old.present.items old.checked old.last in
    let found = checked_definition_of c.in-Ok.found.now in
    let U : SessionState → Type 0 = λ s. IsUpToDate s in
    let F : SessionState → Type 0 = λ s. definition_in s.last c.args.module.now c.args.def.now ≡ Ok found in
    let up = subst U (sym c.self.view_is) c.definition.ensures.current in
    let finds = subst F (sym c.self.view_is) c.in-Ok.ensures.answer in
    let D : List DeviceDecl → Type 0 = λ ds. IsDefinitionOf ds old.present.items c.args.module.now c.args.def.now found in
    let T : Texts → Type 0 = λ ts. IsDefinitionOf c.as_slice.result.now ts c.args.module.now c.args.def.now found in
    subst T (sym c.as_slice-in-Ok.ensures.value)
    (subst D (sym c.as_slice.ensures.value)
    (found_definition session old.last c.self.invariant up c.args.module.now c.args.def.now found finds))

pub returns-in-Ok : goal.returns-in-Ok
returns-in-Ok c =
    let D : List DeviceDecl → Type 0 = λ ds. AnswersEntry ds c.as_slice-in-Ok.result.now c.args.module.now
    c.args.def.now c.start_entry.result in
    let T : Texts → Type 0 = λ ts. AnswersEntry c.self.inside.devices.items ts c.args.module.now c.args.def.now
    c.start_entry.result in
    let P : SessionState → Type 0 = λ s. AnswersEntry s.devices s.present c.args.module.now c.args.def.now
    c.start_entry.result in
    subst P c.self.view_is
    (subst T c.as_slice-in-Ok.ensures.value (subst D c.as_slice.ensures.value c.start_entry.ensures))

pub returns-in-Err : goal.returns-in-Err
returns-in-Err c =
    let old = c.self.inside in
    let session = state old.devices.items old.present.items old.checked old.last in
    let U : SessionState → Type 0 = λ s. IsUpToDate s in
    let F : SessionState → Type 0 = λ s. definition_in s.last c.args.module.now c.args.def.now
    ≡ Err c.in-Err.refused.code in
    let P : SessionState → Type 0 = λ s. (all : List ℕ → judged.ModuleVerdict) → AreVerdicts s.devices s.present all
    → started_in s.present all c.args.module.now c.args.def.now ≡ Err c.in-Err.refused.code in
    let up = subst U (sym c.self.view_is) c.definition.ensures.current in
    let refused = subst F (sym c.self.view_is) c.in-Err.ensures.answer in
    subst P c.self.view_is
    (refused_definition session old.last c.self.invariant up c.args.module.now c.args.def.now c.in-Err.refused.code refused)
