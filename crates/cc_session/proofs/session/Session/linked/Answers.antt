use Rattle.std.proofs.Common.{length, map, refl, sym, ap, ◌∙◌, subst}
use Rattle.std.specs.Prelude.{IsTrue, IfOk}
use Rattle.std.proofs.lemmas.Result.{IfOk-weaker}
use Rattle.cc_session.specs.Modules.{module_of}
use Rattle.cc_session.specs.EntryParts.{AreReachedModules}
use Rattle.cc_session.specs.LinkedModules.{AreLinked}
use Rattle.cc_session.specs.Sessions.{SessionState}
use Rattle.cc_session.proofs.CurrentVerdicts.{current_verdicts, as_many, have_verdicts}
use Rattle.cc_session.proofs.SessionFacts.{state}
use Rattle.cc_session.proofs.session.Session.linked.Goals as goal

pub entry_modules-requires-clause-count : goal.entry_modules-requires-clause-count
entry_modules-requires-clause-count c =
    let old = c.self.inside in
    let session = state old.devices.items old.present.items old.checked old.last in
    let T : SessionState → Type 0 = λ s. IsTrue s.checked in
    let up = c.self.invariant.current (subst T (sym c.self.view_is) c.requires) in
    let (all, are, have) = current_verdicts session old.last c.self.invariant refl up in
    ap length c.as_slice-2.ensures.value ∙ as_many old.present.items all old.last.verdicts.items have ∙ sym (ap length c.as_slice.ensures.value)

pub returns : goal.returns
returns c =
    let old = c.self.inside in
    let session = state old.devices.items old.present.items old.checked old.last in
    let T : SessionState → Type 0 = λ s. IsTrue s.checked in
    let up = c.self.invariant.current (subst T (sym c.self.view_is) c.requires) in
    let current = current_verdicts session old.last c.self.invariant refl up in
    let P : SessionState → Type 0 = λ s. IfOk c.entry_modules.result (λ modules. AreLinked s.devices s.present c.args.module.now (map module_of modules.items)) in
    subst P c.self.view_is
    (IfOk-weaker c.entry_modules.result _ _
    (λ modules reached.
    let (names, order, these) =
    subst (λ vs. AreReachedModules old.present.items vs c.args.module.now modules.items) c.as_slice-2.ensures.value
    (subst (λ ts. AreReachedModules ts c.as_slice-2.result.now c.args.module.now modules.items) c.as_slice.ensures.value reached) in (
      names,
      order,
      λ verdicts are. these verdicts (have_verdicts old.devices.items old.present.items old.last.verdicts.items c.self.invariant.present current verdicts are),
    )) c.entry_modules.ensures)
