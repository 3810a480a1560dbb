-- What holds of a session after a call.
use Rattle.std.proofs.Common.{map, ◌≡◌, ◌≤◌, ℕ, Bool, false, List, [], ◌∷◌, length, Some, None, ap, ◌∙◌, sym, subst, refl}
use Rattle.std.proofs.Common.{arith, get_or, ◌<◌, Ok, Err}
use Rattle.std.proofs.lemmas.List.{get_or_default}
use Rattle.std.proofs.lemmas.Map.Entries.{length-keys_of}
use Rattle.std.proofs.lemmas.Bool.{false≢true, or_parts}
use Rattle.std.proofs.lemmas.Cmp.{nat_list_eq_equiv}
use Rattle.std.proofs.lemmas.Map.Keys.{IsDistinct-head, IsDistinct-tail}
use Rattle.std.proofs.lemmas.Option.{same_Some, slice_get_within, slice_get_read}
use Rattle.std.specs.List.{IsDistinct, AllByRecursion, list_any, slice_get}
use Rattle.std.specs.List.Sorted.{IsStrictlySortedBy}
use Rattle.std.specs.Map.{keys_of}
use Rattle.std.specs.Prelude.{zero, suc}
use Rattle.std.specs.Str.{bytes_eq}
use Rattle.cc_base.specs.declared.device.DeviceDecl.{DeviceDecl}
use Rattle.cc_graph.proofs.NameLemmas.{is_same_name}
use Rattle.cc_judge.specs.declared.grounds.Grounds.{Grounds}
use Rattle.cc_judge.specs.declared.last.Last.{Last}
use Rattle.cc_judge.specs.Judgements.{AreJudged, verdicts_of}
use Rattle.cc_judge.specs.Kept.{named_verdict, named_verdicts, judgements_from, judgements_of, IsKept}
use Rattle.cc_judge.specs.Places.{IsAbsentKey}
use Rattle.cc_judge.specs.Settled.{AreSettled}
use Rattle.cc_verdicts.specs.ModuleLaws.{NamesOfDevicesDiffer}
use Rattle.cc_base.specs.declared.code.Code.{Code}
use Rattle.cc_base.specs.declared.code.Code.TheVariants.{E32, E34}
use Rattle.cc_base.specs.declared.place.Place.{Place}
use Rattle.cc_base.specs.Names.{compare_names}
use Rattle.cc_judge.specs.Places.{text_at}
use Rattle.cc_judge.proofs.TextPlaces.{text_of_place, place_of_key, distinct_keys}
use Rattle.cc_verdicts.specs.ModuleVerdicts.{CheckedDefinition, IsAccepted, IsRefused}
use Rattle.cc_verdicts.specs.PresentTexts.{Texts, ArePresent, text_of, most_modules}
use Rattle.cc_module.specs.declared.judgement.ModuleVerdict.{ModuleVerdict}
use Rattle.cc_module.specs.Findings.{finding_of}
use Rattle.cc_module.specs.Judgements.{module_verdict_of}
use Rattle.cc_session.specs.Sessions.{SessionState, IsSession}
use Rattle.cc_session.specs.Signatures.{verdict_named, findings_named, shown_definitions, definitions_or, signature_of}

-- the session that keeps these judgements
abbrev pub state : List DeviceDecl → Texts → Bool → Last → SessionState
state devices present checked last =
    record { devices = devices; present = present; checked = checked; last = judgements_of last }

nothing_kept : (devices : List DeviceDecl) (last : Last) → last.verdicts.items ≡ [] → last.grounds.items ≡ []
    → IsKept devices last
unfolding IsStrictlySortedBy
nothing_kept devices last no_verdicts no_grounds =
    let N : List (List ℕ × ModuleVerdict) → Type 0 = λ vs. IsStrictlySortedBy compare_names (keys_of vs) in
    let J : List (List ℕ × ModuleVerdict) → Type 0 = λ vs. AreJudged devices (judgements_from vs last.grounds.items) in
    let S : List (List ℕ × ModuleVerdict) → Type 0 = λ vs. AreSettled (judgements_from vs last.grounds.items) in
    record {
      names = subst N (sym no_verdicts) tt;
      one_each = ap length no_grounds ∙ sym (ap length no_verdicts);
      judged = subst J (sym no_verdicts) tt;
      settled = subst S (sym no_verdicts) tt;
    }

pub new_session : (devices : List DeviceDecl) (present : Texts) (last : Last) → NamesOfDevicesDiffer devices
    → present ≡ [] → last.verdicts.items ≡ [] → last.grounds.items ≡ [] → IsSession (state devices present false last) last
unfolding IsStrictlySortedBy
new_session devices present last differ none no_verdicts no_grounds =
    let P : Texts → Type 0 = λ ts. IsSession (state devices ts false last) last in
    subst P (sym none)
    (record {
      differ = differ;
      present = tt;
      few = omega arith;
      kept = nothing_kept devices last no_verdicts no_grounds;
      current = λ checked. absurd (false≢true checked);
    })

-- with other texts, a session is not checked
pub with_texts : (devices : List DeviceDecl) (present : Texts) (checked : Bool) (last : Last) (texts : Texts)
    → IsSession (state devices present checked last) last → ArePresent texts → length texts ≤ most_modules
    → IsSession (state devices texts false last) last
with_texts devices present checked last texts is sorted few =
    record {
      differ = is.differ;
      present = sorted;
      few = few;
      kept = is.kept;
      current = λ checked. absurd (false≢true checked);
    }

-- the verdicts that are kept are those of the judgements
pub verdicts_shown : (verdicts : List (List ℕ × ModuleVerdict)) (grounds : List Grounds)
    → length grounds ≡ length verdicts → named_verdicts verdicts ≡ verdicts_of (judgements_from verdicts grounds)
verdicts_shown [] grounds same = refl
verdicts_shown (first ∷ rest) [] same = absurd (omega arith)
verdicts_shown (first ∷ rest) (one ∷ others) same =
    ap (λ vs. named_verdict first ∷ vs) (verdicts_shown rest others (omega arith))

pub apart_at : (keys : List (List ℕ)) (first name : List ℕ) (at : ℕ) → AllByRecursion (λ y. bytes_eq first y ≡ false) keys
    → slice_get keys at ≡ Some name → bytes_eq first name ≡ false
apart_at [] first name at apart stands = cc
apart_at (key ∷ keys) first name zero apart stands =
    let P : List ℕ → Type 0 = λ y. bytes_eq first y ≡ false in subst P (same_Some key name stands) apart.0
apart_at (key ∷ keys) first name (suc at) apart stands = apart_at keys first name at apart.1 stands

-- the verdict of the name that stands at a place
pub verdict_at_name : (verdicts : List (List ℕ × ModuleVerdict)) (grounds : List Grounds) (at : ℕ) (name : List ℕ)
    (entry : List ℕ × ModuleVerdict) → length grounds ≡ length verdicts → IsDistinct bytes_eq (keys_of verdicts)
    → slice_get (keys_of verdicts) at ≡ Some name → slice_get verdicts at ≡ Some entry
    → verdict_named name (judgements_from verdicts grounds) ≡ Some (module_verdict_of entry.1)
verdict_at_name [] grounds at name entry same distinct named stands = cc
verdict_at_name (first ∷ rest) [] at name entry same distinct named stands = absurd (omega arith)
verdict_at_name (first ∷ rest) (others ∷ more) zero name entry same distinct named stands =
    rw (is_same_name name first.0 (sym (same_Some first.0 name named)))
    (ap (λ e. Some (module_verdict_of e.1)) (same_Some first entry stands))
verdict_at_name (first ∷ rest) (others ∷ more) (suc at) name entry same distinct named stands =
    let apart : bytes_eq name first.0 ≡ false =
    nat_list_eq_equiv.symm name first.0
    ∙ apart_at (keys_of rest) first.0 name at (IsDistinct-head bytes_eq first.0 (keys_of rest) distinct) named in
    rw apart
    (verdict_at_name rest more at name entry (omega arith) (IsDistinct-tail bytes_eq first.0 (keys_of rest) distinct)
    named stands)

pub verdict_absent : (verdicts : List (List ℕ × ModuleVerdict)) (grounds : List Grounds) (name : List ℕ)
    → length grounds ≡ length verdicts → IsAbsentKey (keys_of verdicts) name
    → verdict_named name (judgements_from verdicts grounds) ≡ None
verdict_absent [] grounds name same absent = refl
verdict_absent (first ∷ rest) [] name same absent = absurd (omega arith)
verdict_absent (first ∷ rest) (others ∷ more) name same absent =
    let parts = or_parts (bytes_eq name first.0) (list_any (bytes_eq name) (keys_of rest)) absent in
    rw parts.0 (verdict_absent rest more name (omega arith) parts.1)

-- what was found for the imports of the name that stands at a place
findings_at_name : (verdicts : List (List ℕ × ModuleVerdict)) (grounds : List Grounds) (at : ℕ) (name : List ℕ)
    (one : Grounds) → length grounds ≡ length verdicts → IsDistinct bytes_eq (keys_of verdicts)
    → slice_get (keys_of verdicts) at ≡ Some name → slice_get grounds at ≡ Some one
    → findings_named name (judgements_from verdicts grounds) ≡ Some (map finding_of one.findings)
findings_at_name [] grounds at name one same distinct named stands = cc
findings_at_name (first ∷ rest) [] at name one same distinct named stands = absurd (omega arith)
findings_at_name (first ∷ rest) (others ∷ more) zero name one same distinct named stands =
    rw (is_same_name name first.0 (sym (same_Some first.0 name named)))
    (ap (λ (g : Grounds). Some (map finding_of g.findings)) (same_Some others one stands))
findings_at_name (first ∷ rest) (others ∷ more) (suc at) name one same distinct named stands =
    let apart : bytes_eq name first.0 ≡ false =
    nat_list_eq_equiv.symm name first.0
    ∙ apart_at (keys_of rest) first.0 name at (IsDistinct-head bytes_eq first.0 (keys_of rest) distinct) named in
    rw apart
    (findings_at_name rest more at name one (omega arith) (IsDistinct-tail bytes_eq first.0 (keys_of rest) distinct)
    named stands)

pub findings_shown : (verdicts : List (List ℕ × ModuleVerdict)) (grounds : List Grounds) (at : ℕ) (name : List ℕ)
    (one : Grounds) → length grounds ≡ length verdicts → IsStrictlySortedBy compare_names (keys_of verdicts)
    → slice_get (keys_of verdicts) at ≡ Some name → one ≡ get_or grounds at one
    → findings_named name (judgements_from verdicts grounds) ≡ Some (map finding_of one.findings)
findings_shown verdicts grounds at name one same sorted named is =
    let within : at < length grounds = omega (
      arith,
      slice_get_within (keys_of verdicts) at name named,
      length-keys_of verdicts,
      same,
    ) in
    findings_at_name verdicts grounds at name one same (distinct_keys verdicts sorted) named
    (slice_get_read grounds (length grounds) at one refl within is)

pub findings_absent : (verdicts : List (List ℕ × ModuleVerdict)) (grounds : List Grounds) (name : List ℕ)
    → length grounds ≡ length verdicts → IsAbsentKey (keys_of verdicts) name
    → findings_named name (judgements_from verdicts grounds) ≡ None
findings_absent [] grounds name same absent = refl
findings_absent (first ∷ rest) [] name same absent = absurd (omega arith)
findings_absent (first ∷ rest) (others ∷ more) name same absent =
    let parts = or_parts (bytes_eq name first.0) (list_any (bytes_eq name) (keys_of rest)) absent in
    rw parts.0 (findings_absent rest more name (omega arith) parts.1)

-- what stands at the place of a name is its text
pub text_at_key : (texts : Texts) → ArePresent texts → (at : ℕ) (name : List ℕ) (entry : List ℕ × List ℕ)
    → slice_get (keys_of texts) at ≡ Some name → entry ≡ get_or texts at entry → text_of texts name ≡ Some entry.1
text_at_key texts sorted at name entry stands is =
    let (within, same) = place_of_key texts at name stands in
    let P : List ℕ → Type 0 = λ n. text_of texts n ≡ Some entry.1 in
    subst P same
    (text_of_place texts sorted at within
    ∙ ap (λ e. Some e.1) (get_or_default texts at ([], []) entry within ∙ sym is))

pub text_is_there : (texts : Texts) → ArePresent texts → (at : ℕ) (name : List ℕ)
    → slice_get (keys_of texts) at ≡ Some name → text_of texts name ≡ None → ⊥
text_is_there texts sorted at name stands none =
    let (within, same) = place_of_key texts at name stands in
    let P : List ℕ → Type 0 = λ n. text_of texts n ≡ Some (text_at texts at) in
    let some = subst P same (text_of_place texts sorted at within) in
    let clash : None ≡ Some (text_at texts at) = sym none ∙ some in cc

-- ---- signatures
pub sig_accepted : (verdicts : List (List ℕ × ModuleVerdict)) (grounds : List Grounds) (at : ℕ) (name : List ℕ)
    (entry : List ℕ × ModuleVerdict) (definitions : List CheckedDefinition) → length grounds ≡ length verdicts
    → IsStrictlySortedBy compare_names (keys_of verdicts) → slice_get (keys_of verdicts) at ≡ Some name
    → entry ≡ get_or verdicts at entry → module_verdict_of entry.1 ≡ IsAccepted definitions
    → signature_of (judgements_from verdicts grounds) name ≡ Ok definitions
sig_accepted verdicts grounds at name entry definitions same sorted named is accepted =
    let within : at < length verdicts = omega (
      arith,
      slice_get_within (keys_of verdicts) at name named,
      length-keys_of verdicts,
    ) in
    ap definitions_or
    (verdict_at_name verdicts grounds at name entry same (distinct_keys verdicts sorted) named
    (slice_get_read verdicts (length verdicts) at entry refl within is))
    ∙ ap shown_definitions accepted

pub sig_refused : (verdicts : List (List ℕ × ModuleVerdict)) (grounds : List Grounds) (at : ℕ) (name : List ℕ)
    (entry : List ℕ × ModuleVerdict) (code : Code) (place : Place) → length grounds ≡ length verdicts
    → IsStrictlySortedBy compare_names (keys_of verdicts) → slice_get (keys_of verdicts) at ≡ Some name
    → entry ≡ get_or verdicts at entry → module_verdict_of entry.1 ≡ IsRefused code place
    → signature_of (judgements_from verdicts grounds) name ≡ Err E34
sig_refused verdicts grounds at name entry code place same sorted named is refused =
    let within : at < length verdicts = omega (
      arith,
      slice_get_within (keys_of verdicts) at name named,
      length-keys_of verdicts,
    ) in
    ap definitions_or
    (verdict_at_name verdicts grounds at name entry same (distinct_keys verdicts sorted) named
    (slice_get_read verdicts (length verdicts) at entry refl within is))
    ∙ ap shown_definitions refused

pub sig_absent : (verdicts : List (List ℕ × ModuleVerdict)) (grounds : List Grounds) (name : List ℕ)
    → length grounds ≡ length verdicts → IsAbsentKey (keys_of verdicts) name
    → signature_of (judgements_from verdicts grounds) name ≡ Err E32
sig_absent verdicts grounds name same absent = ap definitions_or (verdict_absent verdicts grounds name same absent)
