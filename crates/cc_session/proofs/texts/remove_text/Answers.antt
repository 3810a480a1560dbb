use Rattle.std.proofs.Common.{◌≡◌, List, ℕ, Some, subst, refl}
use Rattle.std.proofs.lemmas.Bool.{false≢true}
use Rattle.std.specs.List.{slice_get}
use Rattle.std.specs.Map.{keys_of}
use Rattle.cc_judge.specs.Places.{IsAbsentKey}
use Rattle.cc_judge.proofs.Entries.{lookup_absent}
use Rattle.cc_session.proofs.SessionFacts.{text_is_there}
use Rattle.cc_session.proofs.texts.remove_text.Goals as goal

pub remove_at-requires-clause-stands : goal.remove_at-requires-clause-stands
remove_at-requires-clause-stands c =
    let P : List (List ℕ × List ℕ) → Type 0 = λ ts. slice_get (keys_of ts) c.in-Some.at ≡ Some c.args.name.now in
    subst P c.as_slice.ensures.value c.in-Some.ensures

pub returns-in-Some-clause-absent : goal.returns-in-Some-clause-absent
returns-in-Some-clause-absent c =
    let P : List (List ℕ × List ℕ) → Type 0 = λ ts. slice_get (keys_of ts) c.in-Some.at ≡ Some c.args.name.now in (
      λ none. absurd (false≢true none),
      λ none.
          absurd
          (text_is_there c.args.texts.now.items c.requires c.in-Some.at c.args.name.now
          (subst P c.as_slice.ensures.value c.in-Some.ensures) none),
    )

pub returns-in-None-clause-absent : goal.returns-in-None-clause-absent
returns-in-None-clause-absent c =
    let P : List (List ℕ × List ℕ) → Type 0 = λ ts. IsAbsentKey (keys_of ts) c.args.name.now in (
      λ any. lookup_absent c.args.texts.now.items c.args.name.now (subst P c.as_slice.ensures.value c.in-None.ensures),
      λ none. refl,
    )
