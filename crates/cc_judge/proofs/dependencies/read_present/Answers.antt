use Rattle.std.proofs.Common.{◌≡◌, ◌∙◌, ℕ, List, [], Some, subst}
use Rattle.std.proofs.lemmas.List.{get_or_default}
use Rattle.std.specs.List.{slice_get}
use Rattle.std.specs.Map.{keys_of}
use Rattle.std.specs.Option.{MatchOption}
use Rattle.cc_module.specs.declared.judgement.ModuleVerdict.{ModuleVerdict}
use Rattle.cc_judge.specs.Dependencies.{IsJudgedBefore}
use Rattle.cc_judge.specs.Kept.{judgements_of}
use Rattle.cc_judge.specs.Places.{IsAbsentKey, entry_at}
use Rattle.cc_judge.proofs.JudgedBefore.{judged_more}
use Rattle.cc_judge.proofs.Lists.{listed_more}
use Rattle.cc_judge.proofs.dependencies.read_present.Goals as goal

pub read_text-requires : goal.read_text-requires
read_text-requires c =
    let P : List (List ℕ × ModuleVerdict) → Type 0 = λ vs. MatchOption c.place_near-found.result
    (IsAbsentKey (keys_of vs) c.entry-item.result.0) (λ at. slice_get (keys_of vs) at ≡ Some c.entry-item.result.0) in (
      c.entry-item.result.0,
      c.judged_with-judged.ensures c.entry-item.result.0
          (subst P c.as_slice.ensures.value c.place_near-found.ensures),
    )

pub loop-entry-preserved : goal.loop-entry-preserved
loop-entry-preserved c =
    let last = judgements_of c.args.last.now in
    let texts = c.args.texts.now in
    let i = c.loop-entry.entry-index in
    let one = c.entry-item.result in
    let P : List (List ℕ × ModuleVerdict) → Type 0 = λ vs. MatchOption c.place_near-found.result
    (IsAbsentKey (keys_of vs) one.0) (λ at. slice_get (keys_of vs) at ≡ Some one.0) in
    let Q : List ℕ × List ℕ → Type 0 = λ e. IsJudgedBefore last e.0 e.1 c.judged_with-judged.result in
    let before : Q one = c.judged_with-judged.ensures one.0
    (subst P c.as_slice.ensures.value c.place_near-found.ensures) in
    let is : one ≡ entry_at texts i = c.entry-item.is ∙ get_or_default texts i one ([], []) c.loop-entry-test.true in
    record {
      read = listed_more (λ one. one.1) texts c.loop-entry.readings.items c.push.new.self.items i one
          c.in_ok-read.read c.loop-entry-test.true c.entry-item.is c.loop-entry.invariant.read c.in_ok-read.ensures
          c.in_ok-push.ensures.items;
      judged = judged_more last texts i c.loop-entry.places.items c.push-in-loop-entry.new.self.items
          c.judged_with-judged.result c.loop-entry.invariant.judged (subst Q is before) c.in_ok-push-2.ensures.items;
    }
