use Rattle.std.proofs.Common.{◌≡◌, ◌∙◌, List, ℕ, Some, subst, arith, length, ap}
use Rattle.std.proofs.lemmas.List.{length-set}
use Rattle.std.proofs.lemmas.Map.Entries.{length-keys_of}
use Rattle.std.proofs.lemmas.Option.{slice_get_within}
use Rattle.std.proofs.lemmas.Result.{on_ok_weaker}
use Rattle.std.specs.List.{slice_get}
use Rattle.std.specs.Map.{keys_of}
use Rattle.cc_judge.specs.Places.{IsGap}
use Rattle.cc_judge.proofs.Entries.{absent_from_gap}
use Rattle.cc_session.proofs.TextChanges.{set_at_name, others_absent}
use Rattle.cc_session.proofs.texts.insert_text.Goals as goal

pub replace_text-requires : goal.replace_text-requires
replace_text-requires c =
    let texts = c.args.texts.now.items in
    let P : List (List ℕ × List ℕ) → Type 0 = λ ts. slice_get (keys_of ts) c.in-Ok.at ≡ Some c.args.name in
    let named = subst P c.as_slice.ensures.value c.in-Ok.ensures in
    omega (arith, slice_get_within (keys_of texts) c.in-Ok.at c.args.name named, length-keys_of texts)

pub returns-in-Ok-clause-ok : goal.returns-in-Ok-clause-ok
returns-in-Ok-clause-ok c =
    let texts = c.args.texts.now.items in
    let P : List (List ℕ × List ℕ) → Type 0 = λ ts. slice_get (keys_of ts) c.in-Ok.at ≡ Some c.args.name in
    let named = subst P c.as_slice.ensures.value c.in-Ok.ensures in
    c.replace_text.ensures ∙ set_at_name texts c.args.name c.args.text c.in-Ok.at c.requires.present named

pub returns-in-Ok-clause-few : goal.returns-in-Ok-clause-few
returns-in-Ok-clause-few c =
    omega (
      arith,
      ap length c.replace_text.ensures,
      length-set c.args.texts.now.items c.in-Ok.at (c.args.name, c.args.text),
      c.requires.few,
    )

pub insert_at-requires : goal.insert_at-requires
insert_at-requires c =
    let G : List (List ℕ × List ℕ) → Type 0 = λ ts. IsGap (keys_of ts) c.args.name c.in-Err.gap in
    subst G c.as_slice.ensures.value c.in-Err.ensures

pub returns-in-Err-clause-few : goal.returns-in-Err-clause-few
returns-in-Err-clause-few c =
    let texts = c.args.texts.now.items in
    let G : List (List ℕ × List ℕ) → Type 0 = λ ts. IsGap (keys_of ts) c.args.name c.in-Err.gap in
    let gap = subst G c.as_slice.ensures.value c.in-Err.ensures in
    on_ok_weaker c.insert_at.result
    (λ more.
    omega (
      arith,
      more,
      c.requires.room,
      others_absent texts c.args.name (absent_from_gap (keys_of texts) c.args.name c.in-Err.gap gap),
    ))
    c.insert_at.ensures.count
