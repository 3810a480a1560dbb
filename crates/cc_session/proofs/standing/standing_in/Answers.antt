use Rattle.std.proofs.Common.{◌≡◌, ℕ, List, Result, Some, map, subst}
use Rattle.std.specs.List.{slice_get}
use Rattle.std.specs.Map.{keys_of}
use Rattle.cc_base.specs.declared.code.Code.{Code}
use Rattle.cc_judge.specs.Places.{IsAbsentKey}
use Rattle.cc_verdicts.specs.StandingDefinitions.{Standing}
use Rattle.cc_module.specs.Judgements.{checked_definition_of}
use Rattle.cc_module.specs.declared.judgement.ModuleVerdict.{ModuleVerdict}
use Rattle.cc_session.specs.StandingAnswers.{AnswersStanding}
use Rattle.cc_session.proofs.StandingFacts.{last_absent, last_accepted, last_refused}
use Rattle.cc_session.proofs.standing.standing_in.Goals as goal

pub returns-in-Ok : goal.returns-in-Ok
returns-in-Ok c =
    let last = c.args.last.now in
    let N : List (List ℕ × ModuleVerdict) → Type 0 = λ vs. slice_get (keys_of vs) c.in-Some.at ≡ Some c.args.module.now in
    let A : Result Standing Code → Type 0 = λ found. AnswersStanding c.args.devices.now found c.standing_among.result in
    subst A
    (last_accepted last.verdicts.items last.grounds.items c.requires.one_each c.requires.names c.in-Some.at
    c.args.module.now (subst N c.as_slice.ensures.value c.in-Some.ensures) c.index.result.now c.index.ensures
    c.index-in-Ok.result.now c.index-in-Ok.ensures (map checked_definition_of c.in-Ok.defs.now) c.in-Ok.ensures.ok
    c.args.name.now)
    c.standing_among.ensures

pub returns-in-Err : goal.returns-in-Err
returns-in-Err c =
    let last = c.args.last.now in
    let N : List (List ℕ × ModuleVerdict) → Type 0 = λ vs. slice_get (keys_of vs) c.in-Some.at ≡ Some c.args.module.now in
    last_refused last.verdicts.items last.grounds.items c.requires.one_each c.requires.names c.in-Some.at
    c.args.module.now (subst N c.as_slice.ensures.value c.in-Some.ensures) c.index.result.now c.index.ensures
    c.in-Err.field-0.code c.in-Err.field-0.place c.in-Err.ensures.err c.args.name.now

pub returns-in-None : goal.returns-in-None
returns-in-None c =
    let last = c.args.last.now in
    let A : List (List ℕ × ModuleVerdict) → Type 0 = λ vs. IsAbsentKey (keys_of vs) c.args.module.now in
    last_absent last.verdicts.items last.grounds.items c.requires.one_each c.args.module.now c.args.name.now
    (subst A c.as_slice.ensures.value c.in-None.ensures)
