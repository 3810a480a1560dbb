use Rattle.std.proofs.Common.{◌≡◌, Some, None, sym, subst, ◌∙◌, ap}
use Rattle.std.specs.List.{slice_get}
use Rattle.std.specs.Map.{keys_of}
use Rattle.cc_judge.specs.Places.{IsAbsentKey}
use Rattle.cc_judge.proofs.Entries.{lookup_absent}
use Rattle.cc_verdicts.specs.PresentTexts.{Texts, text_of}
use Rattle.cc_session.specs.Sessions.{SessionState}
use Rattle.cc_session.proofs.SessionFacts.{text_at_key}
use Rattle.cc_session.proofs.session.Session.text.Goals as goal

pub returns-in-Some : goal.returns-in-Some
returns-in-Some c =
    let texts = c.self.inside.present.items in
    let N : Texts → Type 0 = λ ts. slice_get (keys_of ts) c.in-Some.at ≡ Some c.args.name.now in
    let P : SessionState → Type 0 = λ s. text_of s.present c.args.name.now ≡ Some c.as_bytes.result.now in
    subst P c.self.view_is
    (text_at_key texts c.self.invariant.present c.in-Some.at c.args.name.now c.index.result.now
    (subst N c.as_slice.ensures.value c.in-Some.ensures) c.index.ensures
    ∙ ap Some (sym c.as_bytes.ensures))

pub returns-in-None : goal.returns-in-None
returns-in-None c =
    let A : Texts → Type 0 = λ ts. IsAbsentKey (keys_of ts) c.args.name.now in
    let P : SessionState → Type 0 = λ s. text_of s.present c.args.name.now ≡ None in
    subst P c.self.view_is
    (lookup_absent c.self.inside.present.items c.args.name.now (subst A c.as_slice.ensures.value c.in-None.ensures))
