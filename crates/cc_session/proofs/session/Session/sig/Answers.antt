use Rattle.std.proofs.Common.{◌≡◌, List, ℕ, Some, Ok, Err, map, subst}
use Rattle.std.specs.List.{slice_get}
use Rattle.std.specs.Map.{keys_of}
use Rattle.cc_base.specs.declared.code.Code.TheVariants.{E32, E34}
use Rattle.cc_judge.specs.Places.{IsAbsentKey}
use Rattle.cc_verdicts.specs.ModuleVerdicts.{CheckedDefinition}
use Rattle.cc_module.specs.Judgements.{checked_definition_of}
use Rattle.cc_module.specs.declared.judgement.ModuleVerdict.{ModuleVerdict}
use Rattle.cc_session.specs.Sessions.{SessionState}
use Rattle.cc_session.specs.Signatures.{signature_of}
use Rattle.cc_session.proofs.SessionFacts.{sig_accepted, sig_refused, sig_absent}
use Rattle.cc_session.proofs.session.Session.sig.Goals as goal

pub returns-in-Ok-clause-answer : goal.returns-in-Ok-clause-answer
returns-in-Ok-clause-answer c =
    let verdicts = c.self.inside.last.verdicts.items in
    let grounds = c.self.inside.last.grounds.items in
    let N : List (List ℕ × ModuleVerdict) → Type 0 = λ vs. slice_get (keys_of vs) c.in-Some.at ≡ Some c.args.name.now in
    let named = subst N c.as_slice.ensures.value c.in-Some.ensures in
    let definitions : List CheckedDefinition = map checked_definition_of c.in-Ok.defs.now in
    let P : SessionState → Type 0 = λ s. signature_of s.last c.args.name.now ≡ Ok definitions in
    subst P c.self.view_is
    (sig_accepted verdicts grounds c.in-Some.at c.args.name.now c.index.result.now definitions
    c.self.invariant.kept.one_each c.self.invariant.kept.names named c.index.ensures c.in-Ok.ensures.ok)

pub returns-in-Err-clause-answer : goal.returns-in-Err-clause-answer
returns-in-Err-clause-answer c =
    let verdicts = c.self.inside.last.verdicts.items in
    let grounds = c.self.inside.last.grounds.items in
    let N : List (List ℕ × ModuleVerdict) → Type 0 = λ vs. slice_get (keys_of vs) c.in-Some.at ≡ Some c.args.name.now in
    let named = subst N c.as_slice.ensures.value c.in-Some.ensures in
    let P : SessionState → Type 0 = λ s. signature_of s.last c.args.name.now ≡ Err E34 in
    subst P c.self.view_is
    (sig_refused verdicts grounds c.in-Some.at c.args.name.now c.index.result.now c.in-Err.field-0.code
    c.in-Err.field-0.place c.self.invariant.kept.one_each c.self.invariant.kept.names named c.index.ensures c.in-Err.ensures.err)

pub returns-in-None-clause-answer : goal.returns-in-None-clause-answer
returns-in-None-clause-answer c =
    let verdicts = c.self.inside.last.verdicts.items in
    let grounds = c.self.inside.last.grounds.items in
    let A : List (List ℕ × ModuleVerdict) → Type 0 = λ vs. IsAbsentKey (keys_of vs) c.args.name.now in
    let P : SessionState → Type 0 = λ s. signature_of s.last c.args.name.now ≡ Err E32 in
    subst P c.self.view_is
    (sig_absent verdicts grounds c.args.name.now c.self.invariant.kept.one_each
    (subst A c.as_slice.ensures.value c.in-None.ensures))
