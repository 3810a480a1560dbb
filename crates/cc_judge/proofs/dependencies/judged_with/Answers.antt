use Rattle.std.proofs.Common.{◌≡◌, ℕ, Some, Option, sym, subst, ◌∙◌}
use Rattle.std.specs.List.{slice_get}
use Rattle.std.specs.Map.{keys_of}
use Rattle.std.specs.Option.{MatchOption}
use Rattle.cc_judge.specs.Places.{IsAbsentKey}
use Rattle.cc_judge.proofs.JudgedBefore.{grounds_there, grounds_none, judged_there, judged_nowhere, judged_never, other_text, no_text}
use Rattle.cc_judge.proofs.TextPlaces.{distinct_keys}
use Rattle.cc_judge.proofs.dependencies.judged_with.Goals as goal

pub returns-then-is_of : goal.returns-then-is_of
returns-then-is_of c = λ name named.
    let last = c.args.last.now in
    let at = c.in-Some.at in
    let P : Option ℕ → Type 0 = λ o. MatchOption o (IsAbsentKey (keys_of last.verdicts.items) name)
    (λ at. slice_get (keys_of last.verdicts.items) at ≡ Some name) in
    let found = c.in-Some-get.ensures.lookup in
    judged_there last.verdicts.items last.grounds.items at c.in-Some-get.grounds.now name c.args.text.now
    (subst P c.in-Some.is named)
    (grounds_there last.grounds.items c.deref.result.now at c.in-Some-get.grounds.now c.deref.ensures.value found.0 found.1)
    (sym c.is_of.ensures ∙ c.if-is_of.true)

pub returns-else-is_of : goal.returns-else-is_of
returns-else-is_of c = λ name named.
    let last = c.args.last.now in
    let at = c.in-Some.at in
    let P : Option ℕ → Type 0 = λ o. MatchOption o (IsAbsentKey (keys_of last.verdicts.items) name)
    (λ at. slice_get (keys_of last.verdicts.items) at ≡ Some name) in
    let found = c.in-Some-get.ensures.lookup in
    judged_nowhere last.verdicts.items last.grounds.items at name c.args.text.now
    (distinct_keys last.verdicts.items c.requires) (subst P c.in-Some.is named)
    (other_text last.grounds.items at c.in-Some-get.grounds.now c.args.text.now
    (grounds_there last.grounds.items c.deref.result.now at c.in-Some-get.grounds.now c.deref.ensures.value found.0 found.1)
    (sym c.is_of.ensures ∙ c.if-is_of.false))

pub returns-in-None-get : goal.returns-in-None-get
returns-in-None-get c = λ name named.
    let last = c.args.last.now in
    let at = c.in-Some.at in
    let P : Option ℕ → Type 0 = λ o. MatchOption o (IsAbsentKey (keys_of last.verdicts.items) name)
    (λ at. slice_get (keys_of last.verdicts.items) at ≡ Some name) in
    judged_nowhere last.verdicts.items last.grounds.items at name c.args.text.now
    (distinct_keys last.verdicts.items c.requires) (subst P c.in-Some.is named)
    (no_text last.grounds.items at c.args.text.now
    (grounds_none last.grounds.items c.deref.result.now at c.deref.ensures.value c.in-None-get.ensures.lookup.0))

pub returns-in-None : goal.returns-in-None
returns-in-None c = λ name named.
    let last = c.args.last.now in
    let P : Option ℕ → Type 0 = λ o. MatchOption o (IsAbsentKey (keys_of last.verdicts.items) name)
    (λ at. slice_get (keys_of last.verdicts.items) at ≡ Some name) in
    judged_never last.verdicts.items last.grounds.items name c.args.text.now (subst P c.in-None.is named)
