use Rattle.std.proofs.Common.{◌≡◌, List, ℕ, Some, None, map, sym, ap, ◌∙◌, subst}
use Rattle.std.specs.List.{slice_get}
use Rattle.std.specs.Map.{keys_of}
use Rattle.cc_judge.specs.Places.{IsAbsentKey}
use Rattle.cc_module.specs.Findings.{finding_of}
use Rattle.cc_module.specs.declared.judgement.ModuleVerdict.{ModuleVerdict}
use Rattle.cc_session.specs.Sessions.{SessionState}
use Rattle.cc_session.specs.Signatures.{findings_named}
use Rattle.cc_session.proofs.SessionFacts.{findings_shown, findings_absent}
use Rattle.cc_session.proofs.session.Session.findings.Goals as goal

pub returns-in-Some-clause-answer : goal.returns-in-Some-clause-answer
returns-in-Some-clause-answer c =
    let verdicts = c.self.inside.last.verdicts.items in
    let grounds = c.self.inside.last.grounds.items in
    let N : List (List ℕ × ModuleVerdict) → Type 0 = λ vs. slice_get (keys_of vs) c.in-Some.at ≡ Some c.args.name.now in
    let named = subst N c.as_slice.ensures.value c.in-Some.ensures in
    let P : SessionState → Type 0 = λ s. findings_named c.args.name.now s.last ≡ Some (map finding_of c.as_slice-in-Some.result.now) in
    subst P c.self.view_is
    (findings_shown verdicts grounds c.in-Some.at c.args.name.now c.index.result.now
    c.self.invariant.kept.one_each c.self.invariant.kept.names named c.index.ensures
    ∙ ap (λ fs. Some (map finding_of fs)) (sym c.as_slice-in-Some.ensures))

pub returns-in-None-clause-answer : goal.returns-in-None-clause-answer
returns-in-None-clause-answer c =
    let verdicts = c.self.inside.last.verdicts.items in
    let grounds = c.self.inside.last.grounds.items in
    let A : List (List ℕ × ModuleVerdict) → Type 0 = λ vs. IsAbsentKey (keys_of vs) c.args.name.now in
    let P : SessionState → Type 0 = λ s. findings_named c.args.name.now s.last ≡ None in
    subst P c.self.view_is
    (findings_absent verdicts grounds c.args.name.now c.self.invariant.kept.one_each
    (subst A c.as_slice.ensures.value c.in-None.ensures))
