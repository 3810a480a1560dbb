use Rattle.std.proofs.Common.{ℕ, [], Option, map, ap, sym, subst, ◌∙◌}
use Rattle.std.proofs.lemmas.Bool.{not_from_false}
use Rattle.std.specs.Option.{option_map, unwrap_or}
use Rattle.cc_module.specs.Findings.{finding_of}
use Rattle.cc_parse.specs.Trees.{imports_syntax}
use Rattle.cc_verdicts.specs.PresentTexts.{finding_for}
use Rattle.cc_judge.specs.Dependencies.{IsJudgedBefore}
use Rattle.cc_judge.specs.Kept.{judgements_of}
use Rattle.cc_judge.specs.SameFindings.{same_findings}
use Rattle.cc_judge.proofs.JudgedBefore.{grounds_there, grounds_none, has_grounds, kept_at, stale_other, stale_never}
use Rattle.cc_judge.proofs.StillFound.{last_found}
use Rattle.cc_judge.proofs.TextPlaces.{distinct_keys}
use Rattle.cc_judge.proofs.plans.kept_place.Goals as goal

pub same_as_last-requires-clause-old : goal.same_as_last-requires-clause-old
same_as_last-requires-clause-old c =
    let last = c.args.last.now in
    let P : Option ℕ → Type 0 = λ o. IsJudgedBefore (judgements_of last) c.args.name.now c.args.text.now o in
    let found = c.in-Some-get.ensures.lookup in
    let one = c.in-Some-get.grounds.now in
    last_found last.verdicts.items last.grounds.items c.requires.kept.settled c.in-Some.at one c.args.name.now
    c.args.text.now (subst P c.in-Some.is c.requires.judged)
    (grounds_there last.grounds.items c.deref.result.now c.in-Some.at one c.deref.ensures.value found.0 found.1)
    (option_map imports_syntax c.imports.result.now) c.imports.ensures c.as_slice.result.now c.as_slice.ensures

pub same_as_last-requires-clause-new : goal.same_as_last-requires-clause-new
same_as_last-requires-clause-new c =
    λ all are.
    c.requires.found all are
    ∙ sym (ap (λ o. map (finding_for c.args.texts.now all c.args.name.now) (unwrap_or o [])) c.imports.ensures)

pub returns-then-same-clause-place : goal.returns-then-same-clause-place
returns-then-same-clause-place c =
    let last = c.args.last.now in
    let P : Option ℕ → Type 0 = λ o. IsJudgedBefore (judgements_of last) c.args.name.now c.args.text.now o in
    let found = c.in-Some-get.ensures.lookup in
    let one = c.in-Some-get.grounds.now in
    kept_at last.verdicts.items last.grounds.items c.in-Some.at one c.args.name.now c.args.text.now
    (map finding_of c.args.findings.now) (subst P c.in-Some.is c.requires.judged)
    (grounds_there last.grounds.items c.deref.result.now c.in-Some.at one c.deref.ensures.value found.0 found.1)
    (sym (c.in_ok-same-in-Some-get.ensures.same
    ∙ ap (λ fs. same_findings (map finding_of fs) (map finding_of c.args.findings.now)) c.as_slice.ensures)
    ∙ c.if-same.true)

pub returns-else-same-clause-place : goal.returns-else-same-clause-place
returns-else-same-clause-place c =
    let last = c.args.last.now in
    let P : Option ℕ → Type 0 = λ o. IsJudgedBefore (judgements_of last) c.args.name.now c.args.text.now o in
    let found = c.in-Some-get.ensures.lookup in
    let one = c.in-Some-get.grounds.now in
    not_from_false _
    (stale_other last.verdicts.items last.grounds.items c.in-Some.at one c.args.name.now c.args.text.now
    (map finding_of c.args.findings.now) (distinct_keys last.verdicts.items c.requires.kept.names)
    (subst P c.in-Some.is c.requires.judged)
    (grounds_there last.grounds.items c.deref.result.now c.in-Some.at one c.deref.ensures.value found.0 found.1)
    (sym (c.in_ok-same-in-Some-get.ensures.same
    ∙ ap (λ fs. same_findings (map finding_of fs) (map finding_of c.args.findings.now)) c.as_slice.ensures)
    ∙ c.if-same.false))

pub returns-in-None-get-clause-place : goal.returns-in-None-get-clause-place
returns-in-None-get-clause-place c =
    let last = c.args.last.now in
    let P : Option ℕ → Type 0 = λ o. IsJudgedBefore (judgements_of last) c.args.name.now c.args.text.now o in
    let (one, stands, named, texted) = subst P c.in-Some.is c.requires.judged in
    absurd
    (has_grounds last.verdicts.items last.grounds.items c.in-Some.at one stands
    (grounds_none last.grounds.items c.deref.result.now c.in-Some.at c.deref.ensures.value
    c.in-None-get.ensures.lookup.0))

pub returns-in-None-clause-place : goal.returns-in-None-clause-place
returns-in-None-clause-place c =
    let last = judgements_of c.args.last.now in
    let P : Option ℕ → Type 0 = λ o. IsJudgedBefore last c.args.name.now c.args.text.now o in
    not_from_false _
    (stale_never last c.args.name.now c.args.text.now (map finding_of c.args.findings.now)
    (subst P c.in-None.is c.requires.judged))
